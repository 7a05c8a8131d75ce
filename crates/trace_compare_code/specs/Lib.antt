pub mod Lines
pub mod LinesClaims
pub mod Numbers
pub mod Rows
pub mod DifferencesClaims
pub mod Inner
