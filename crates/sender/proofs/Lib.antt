mod Cases
mod Slots
mod History
mod ItemLaws
mod Kept
mod SendAccepted
mod FreshSteps
mod HonestLaws
mod Outcome
mod Chain
mod Faithful
mod SentBack
mod Takes
pub mod Laws
pub mod Claims
pub mod Instance
