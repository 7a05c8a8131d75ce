pub mod Cases
mod Copying
mod Turns
pub mod Laws
