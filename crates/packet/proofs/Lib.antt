pub mod Cases
mod Described
mod Steady
mod Inside
mod Written
mod Fitting
mod RoundTrips
mod ReadBack
mod Follow
mod Alike
pub mod Laws
pub mod Claims
