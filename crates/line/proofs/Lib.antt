pub mod Cases
mod Appending
mod HexLaws
mod Feeding
mod FeedTaken
mod LineCuts
mod BlockLaws
mod ReleaseAll
mod HexBack
mod ResultBack
mod InTurn
pub mod Laws
mod OneOutcome
pub mod Claims
