-- What functions inside the library promise each other. It adds nothing to the meaning.
pub mod Heads
