-- Demand 2: what holds of every chain of calls. The demand itself is in Demand2/Demand2.antt.
pub mod GoesOn
pub mod ReachedBy
pub mod NotedBy
pub mod SendChain
pub mod RoundTrips
pub mod Demand2
