pub mod Beside
mod Turns
mod Members
mod Search
mod Below
mod Totals
mod First
mod Sums
mod Fills
pub mod Laws
