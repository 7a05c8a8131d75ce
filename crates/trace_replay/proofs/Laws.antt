-- What the crates above use of this one's laws. Assumes nothing.

-- ---- the lines of a trace, one after the other
pub use Rattle.trace_replay.proofs.TraceLines.{lines_none, lines-first, lines-last}
-- ---- whether a number is listed, and whether a line is dropped
pub use Rattle.trace_replay.proofs.Dropping.{listed_more, listed-none, not-dropped}
-- ---- the number of a line's datagram, in its first four digits
pub use Rattle.trace_replay.proofs.Front.{Fronted, fronted}
-- ---- one line
pub use Rattle.trace_replay.proofs.Rest.{step-dropped, step_left}
