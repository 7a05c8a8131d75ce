pub mod Cases
pub mod Slots
pub mod States
pub mod Places
pub mod Seen
pub mod Placed
pub mod Ranges
pub mod FreshSession
pub mod Messages
mod SameSlot
pub mod Injective
pub mod Marked
pub mod Heard
pub mod Laws
