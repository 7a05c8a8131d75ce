-- `datagram_writer::items_size` meets its contract. Assumes nothing.
use Rattle.datagram_writer.proofs.ItemsSizeSteps.{Sizing}
use Rattle.datagram_writer.proofs.put.items_size.Given as goal

abbrev pub invariant-loop-length : goal.invariant-loop-length
invariant-loop-length l = Sizing l.lengths l.size l.length-index
