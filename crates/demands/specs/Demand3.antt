-- Demand 3: what gets through from an honest sender. The demand itself is in Demand3/Demand3.antt; Example, Burst and SolvedExample
-- show that its hypotheses can be met.
pub mod Feeding
pub mod FedCalls
pub mod Demand3
pub mod Example
pub mod Burst
pub mod SolvedExample
