pub mod Slots
pub mod Table
pub mod Laid
pub mod Heard
pub mod Promise
pub mod Cases
