pub mod Hex
pub mod Lines
pub mod Feed
pub mod Promise
pub mod FeedPromise
pub mod Text
pub mod Cases
pub mod Claims
