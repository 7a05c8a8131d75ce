-- `packet_writer::past_fields` meets its contract. The loop's invariant: the place after what is left, from the place so far, is the
-- place after all. Assumes nothing.
use Rattle.packet_laws.proofs.Laws.{Passing}
use Rattle.packet_writer.proofs.sizes.past_fields.Given as goal

abbrev pub invariant-loop-i : goal.invariant-loop-i
invariant-loop-i l = Passing l.known l.from l.types l.lengths l.i l.place
