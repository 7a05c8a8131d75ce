pub mod Laying
pub mod Keeping
pub mod Sparing
pub mod Holding
mod Known
mod Accepting
mod Offering
pub mod Laws
