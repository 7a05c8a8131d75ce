pub mod Cases
mod Having
mod Sameness
mod SideBySide
mod AsOften
mod Listing
mod Spelling
mod Reading
mod Refusing
mod Calls
pub mod Laws
pub mod Claims
