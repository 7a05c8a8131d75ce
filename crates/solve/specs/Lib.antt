pub mod Equations
pub mod Solved
pub mod Claims
pub mod Cases
pub mod Table
pub mod Solve
pub mod SolutionsClaims
