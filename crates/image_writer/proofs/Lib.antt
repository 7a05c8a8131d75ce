mod Laying
mod Turns
mod Sizing
mod Whole
mod Answers
