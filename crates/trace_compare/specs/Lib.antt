pub mod Pairing
pub mod Entries
pub mod Told
pub mod Traces
pub mod Promise
pub mod Cases
pub mod Claims
