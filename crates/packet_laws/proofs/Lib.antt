mod Editions
mod Every
mod Rest
mod ReadLaws
mod ReadEnds
mod AtValue
mod AtOnce
mod AtFirst
mod AtOctets
mod ReadAt
mod ValueLaid
mod FieldLaid
mod Laid
mod WriteLaws
pub mod Laws
pub mod Claims
