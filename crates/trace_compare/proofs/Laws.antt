-- What the crates above use of this one's laws. Assumes nothing.

-- ---- the lines of one number, and the k-th of some
pub use Rattle.trace_compare.proofs.Having.{having-hit, having-miss, having-none, having-append, kth-left, kth-seam}
-- ---- the same octets, spares and messages
pub use Rattle.trace_compare.proofs.Sameness.{same_refl, same_true, each-refl, each-true, rows_of, spares-itself, parity-itself}
-- ---- a datagram is spelt in one way
pub use Rattle.trace_compare.proofs.Spelling.{parts-of, carried-octets, extras-same}
-- ---- the lines of a trace, one after the other
pub use Rattle.trace_compare.proofs.Reading.{behind, behind-none, behind-behind, read_none, read-empty, read_done, read-refused}
pub use Rattle.trace_compare.proofs.Reading.{empty-or-some}
-- ---- the call, by what was found
pub use Rattle.trace_compare.proofs.Refusing.{compared, too-many-first, too-many-second, few-compared}
pub use Rattle.trace_compare.proofs.Calls.{numbers-twice}
