-- The laws of this crate that others use; each is proved in the file that it is passed on from. Assumes nothing.

-- ---- the held messages, four to a number
pub use Rattle.solve.proofs.Numbers.{message-there, message-none, Few, sound-few}
-- ---- the function means what the equations mean
pub use Rattle.solve.proofs.Solve.{means-it}
-- ---- solutions over octets say the same
pub use Rattle.solve.proofs.Octets.{none-of-octets, one-octets}
-- ---- the numbers after the first rows
pub use Rattle.solve.proofs.Filling.{after_none, after_turn}
