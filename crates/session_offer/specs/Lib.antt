pub mod KeepSteps
pub mod KeepPromise
pub mod Outcome
pub mod Steps
pub mod Promise
