-- Contracts between the functions inside the library: no part of the meaning.
pub mod Held
pub mod Items
pub mod Next
