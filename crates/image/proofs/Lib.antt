pub mod Cases
mod Plain
mod Numbers
mod Text
mod HexLine
mod Productions
mod Whole
mod Holds
mod Sizes
mod Answers
mod Editions
mod Lent
mod Fresh
pub mod Laws
pub mod Claims
