mod Turns
mod Slot
mod Places
mod SlotTests
mod Same
