-- `datagram_writer::put_items` meets its contract. Assumes nothing.
use Rattle.datagram_writer.proofs.ItemSteps.{Going}
use Rattle.datagram_writer.proofs.put.put_items.Given as goal

abbrev pub invariant-loop-length : goal.invariant-loop-length
invariant-loop-length l = Going l.lengths l.data l.initial.out l.out l.length-index l.from l.at
