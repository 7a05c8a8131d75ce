-- The laws of this crate that others use; each is proved in the file that it is passed on from. Assumes nothing.

-- ---- one outcome, one answer
pub use Rattle.solve_code.proofs.Claims.{solved-told}
-- ---- octets in memory, octets in view
pub use Rattle.solve_code.proofs.Octets.{view-octets}
