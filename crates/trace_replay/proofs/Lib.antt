pub mod Cases
mod TraceLines
mod Dropping
mod Front
mod Rest
mod Lists
mod OneOutcome
pub mod Laws
pub mod Claims
