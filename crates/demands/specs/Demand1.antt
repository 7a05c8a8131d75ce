-- Demand 1: what is refused, with which number and at which place. The demand itself is in Demand1/Demand1.antt; CutShortExample is a
-- worked refusal of solve.
pub mod Refusals
pub mod DatagramItems
pub mod DatagramRefusals
pub mod PacketItems
pub mod PacketRefusals
pub mod Demand1
pub mod CutShortExample
