-- `datagram_writer::sums_to` meets its contract. Assumes nothing.
use Rattle.datagram_writer.proofs.WriteTests.{SumLeft}
use Rattle.datagram_writer.proofs.writer.sums_to.Given as goal

abbrev pub invariant-loop-length : goal.invariant-loop-length
invariant-loop-length l = SumLeft l.lengths l.total l.left l.length-index
