pub mod Text
pub mod Items
pub mod Number
pub mod Laying
pub mod Whole
