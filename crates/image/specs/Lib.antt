pub mod Parts
pub mod Layout
pub mod Octets
pub mod Image
pub mod Promise
pub mod Cases
pub mod Claims
