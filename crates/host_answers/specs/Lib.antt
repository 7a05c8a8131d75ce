pub mod Answers
pub mod Joiner
pub mod Packet
pub mod Settings
pub mod Cases
pub mod Claims
