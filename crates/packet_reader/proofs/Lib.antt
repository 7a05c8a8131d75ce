mod ReadPlaces
mod ReadValues
mod ReadHeads
mod ReadItems
mod ReadFields
mod FieldsTurn
mod ReadPacket
pub mod Laws
