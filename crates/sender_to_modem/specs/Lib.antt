pub mod Marks
pub mod Transfer
pub mod Sold
pub mod Sharp
pub mod Host
pub mod Instance
pub mod Claims
