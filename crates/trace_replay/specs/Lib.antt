pub mod Replay
pub mod Promise
pub mod Cases
pub mod Claims
