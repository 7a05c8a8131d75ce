pub mod Claims
mod Turning
