pub mod Held
mod Octets
mod Unknown
mod Equation
mod Laying
pub mod RowsClaims
pub mod RowsLaws
mod Siding
mod Summing
mod Fitting
mod Filling
mod Whole
pub mod Claims
pub mod Laws
