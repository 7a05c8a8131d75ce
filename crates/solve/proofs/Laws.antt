-- The laws of this crate that others use; each is proved in the file that it is passed on from. Assumes nothing.

-- ---- padded octets, and a solution at one place of them
pub use Rattle.solve.proofs.Padded.{padded-at, length-padded, padded-same, padded-whole, padded-zeros, known_at, equation-at}
-- ---- the numbers after the call
pub use Rattle.solve.proofs.After.{stays-known, known-one, one_known, none-usable, solved-closed, holds-reached, solved-unique}
-- ---- one answer, and no less with more known
pub use Rattle.solve.proofs.Twice.{solved-same, one-outcome, nothing-more, no_less}
-- ---- the ranges
pub use Rattle.solve.proofs.Keeping.{solved-sound}
-- ---- an honest sender
pub use Rattle.solve.proofs.Honest.{sent, sent-solution, honest-fill, solved-right}
-- ---- messages together
pub use Rattle.solve.proofs.Together.{together-one}
