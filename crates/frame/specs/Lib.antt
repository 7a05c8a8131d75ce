pub mod Frame
pub mod Joiner
pub mod Promise
pub mod Line
pub mod Cases
pub mod Claims
