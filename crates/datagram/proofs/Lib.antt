mod SizeTests
mod SizeLaws
pub mod WriteLaws
mod PieceLaws
mod ReadLaws
mod ReadBack
mod WriteBack
pub mod Laws
pub mod Cases
pub mod Claims
