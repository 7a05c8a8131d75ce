mod Storage
mod Owing
mod Calls
mod Feeding
