-- The laws of this crate that others use; each is proved in the file that it is passed on from. Assumes nothing.

-- ---- the first place that passes a test
pub use Rattle.solve_algebra.proofs.First.{first_passes, first-least, first-most, first-before, first-is}
-- ---- sums over the columns of a row
pub use Rattle.solve_algebra.proofs.Sums.{xor-false, sum_same, sum-none, sum-combined, sum-alone, sum-small}
-- ---- the tests of a row
pub use Rattle.solve_algebra.proofs.Tests.{empty-says, empty_of, alone-says, alone_of, alone-only}
pub use Rattle.solve_algebra.proofs.Tests.{alone-found, alone-no-later, alone-or-not}
-- ---- what a reduced table tells
pub use Rattle.solve_algebra.proofs.Solving.{solved, solved-satisfies, solved-small, Hangs, hangs, alone-value, satisfied-consistent}
