mod ResultSteps
mod Stepping
mod ReleaseLoop
mod Offering
mod StepLaws
pub mod Laws
mod FeedSteps
mod FeedTurn
mod FeedLoop
