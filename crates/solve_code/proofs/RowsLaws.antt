-- The laws of this crate that others use; each is proved in the file that it is passed on from. Assumes nothing.

-- ---- equation e, in the words of the table
pub use Rattle.solve_code.proofs.Held.{equation-there, equation-none}
