pub mod Cases
mod Standing
mod Lawful
mod Parts
mod WholeOctets
mod Packing
mod Edges
mod Filling
mod Apart
mod Steady
mod SteadyOctets
pub mod Laws
