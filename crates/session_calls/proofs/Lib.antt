mod Called
mod Outcomes
mod Seen
pub mod Claims
mod SolvedLaws
pub mod SolverClaims
pub mod Laws
