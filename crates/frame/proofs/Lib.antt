pub mod Laws
mod Cases
mod Outcome
mod Fed
mod HandedOut
mod Stretch
mod Line
mod Example
pub mod Claims
