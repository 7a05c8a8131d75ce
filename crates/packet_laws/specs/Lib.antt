pub mod Octets
pub mod Laid
pub mod Items
pub mod Claims
