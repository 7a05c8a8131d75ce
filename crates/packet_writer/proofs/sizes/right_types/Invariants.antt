-- `packet_writer::right_types` meets its contract. The loop's invariant: what is left of types and lengths decides. Assumes nothing.
use Rattle.packet_writer.proofs.Measure.{RightLeft}
use Rattle.packet_writer.proofs.sizes.right_types.Given as goal

abbrev pub invariant-loop-i : goal.invariant-loop-i
invariant-loop-i l = RightLeft l.types l.lengths l.i
