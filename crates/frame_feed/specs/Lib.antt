pub mod Feed
pub mod Promise
pub mod Inner
pub mod Claims
