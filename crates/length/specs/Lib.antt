pub mod Refusals
pub mod Answers
pub mod Tables
pub mod Length
pub mod Promise
pub mod Cases
pub mod Claims
