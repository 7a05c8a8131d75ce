-- The laws of this crate that others use; each is proved in the file that it is passed on from. Assumes nothing.

-- ---- a row to start with
pub use Rattle.solve_algebra.proofs.Sources.{start-mask, start-source}
-- ---- elimination
pub use Rattle.solve_algebra.proofs.Steps.{Done, eliminated-done}
