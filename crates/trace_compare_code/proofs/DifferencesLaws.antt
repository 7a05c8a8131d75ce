-- What the crates above use of this one's laws. Assumes nothing.

-- ---- how often a number stands in a list
pub use Rattle.trace_compare_code.proofs.Often.{often-none, often-hit, often-miss, often-append, often-few}
-- ---- the octets of a run are the same
pub use Rattle.trace_compare_code.proofs.Telling.{done-of, differences-none}
