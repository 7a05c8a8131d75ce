-- The laws of this crate that others use; each is proved in the file that it is passed on from. Assumes nothing.

-- ---- the bits of a mask
pub use Rattle.solve_algebra.proofs.Bits.{bit-xor, bit-and, no-bit}
pub use Rattle.solve_algebra.proofs.Powers.{bit-power, sum-mask}
-- ---- the place that stands alone
pub use Rattle.solve_algebra.proofs.Places.{lone-exact, lone_is}
