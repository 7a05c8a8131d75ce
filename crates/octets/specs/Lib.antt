pub mod Place
pub mod ExclusiveOr
pub mod Words
pub mod Cases
