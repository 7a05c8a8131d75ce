pub mod Receiver
pub mod Claims
pub mod Solver
pub mod SolverClaims
