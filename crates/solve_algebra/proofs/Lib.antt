mod First
mod Sums
mod Tests
mod Owners
mod Solving
pub mod LinearLaws
pub mod LinearClaims
mod Bits
mod Powers
mod Places
mod Back
pub mod MasksLaws
pub mod MasksClaims
mod Sources
mod Combining
mod Pivots
mod Swapping
mod Clearing
mod Steps
mod Turns
pub mod Laws
pub mod Claims
