pub mod Freeing
pub mod Advanced
pub mod Laying
pub mod Base
pub mod Moving
pub mod Release
pub mod Copying
pub mod Laws
