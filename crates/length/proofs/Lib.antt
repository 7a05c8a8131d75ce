mod Steps
mod LengthRule
mod Answers
mod Fronts
pub mod Tables
pub mod Laws
pub mod Cases
pub mod Claims
