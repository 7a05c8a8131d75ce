mod Memory
pub mod Receiving
pub mod Sending
pub mod Joining
pub mod JoinerClaims
pub mod PacketLaws
pub mod PacketClaims
pub mod Solving
mod ImageClaims
mod HandedOver
pub mod Claims
