pub mod Edition
pub mod Packet
pub mod Write
pub mod Promise
pub mod Cases
pub mod NewCases
pub mod TableCases
pub mod Claims
