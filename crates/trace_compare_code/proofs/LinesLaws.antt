-- What the crates above use of this one's laws. Assumes nothing.

-- ---- the line that begins at a place
pub use Rattle.trace_compare_code.proofs.Cutting.{line_of}
-- ---- room for the octets of any line
pub use Rattle.trace_compare_code.proofs.Holding.{room_for}
