mod Lines
mod Ready
mod Offered
mod Draining
mod Copies
mod Modem
mod Standing
mod Arriving
mod Sold
mod Sharp
mod Host
mod Instance
pub mod Claims
