pub mod Bits
pub mod Items
pub mod Fields
pub mod Packet
