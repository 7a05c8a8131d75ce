mod Cutting
mod Holding
mod Keeping
mod Turning
pub mod LinesLaws
pub mod LinesClaims
mod Often
mod Alike
mod DifferencesListing
mod Shapes
mod Telling
pub mod DifferencesLaws
pub mod DifferencesClaims
mod Rereading
mod Mates
mod FirstLines
mod SecondLines
mod Whole
