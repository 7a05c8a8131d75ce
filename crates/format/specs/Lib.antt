pub mod Spelling
pub mod Reading
pub mod Format
pub mod Places
pub mod Waiting
pub mod Cases
