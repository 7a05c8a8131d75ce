mod Listing
mod Fronts
mod Taking
mod Laying
mod Loop
mod Whole
