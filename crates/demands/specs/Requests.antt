-- Claims beside the demands: the second packet reader, release, images, what fits in a datagram, solving.
pub mod SecondReader
pub mod OneCall
pub mod Handover
pub mod Editions
pub mod Fits
pub mod Losses
