pub mod RowsPromise
pub mod RowsClaims
pub mod Outcome
pub mod Steps
pub mod Promise
pub mod Claims
