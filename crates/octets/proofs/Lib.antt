pub mod Either
pub mod Cases
pub mod Place
pub mod ExclusiveOr
pub mod Laws
mod Numbers
mod Turns
pub mod WordsLaws
