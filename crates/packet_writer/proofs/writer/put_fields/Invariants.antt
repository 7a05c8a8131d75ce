-- `packet_writer::put_fields` meets its contract. The loop's invariant: what is left to put, put after what is there now and what
-- waits, gives the whole. The sums fit because the fields end inside data and buffer. Assumes nothing.
use Rattle.packet_writer.proofs.PutFields.{Filling}
use Rattle.packet_writer.proofs.writer.put_fields.Given as goal

abbrev pub invariant-loop-i : goal.invariant-loop-i
invariant-loop-i l = Filling l.known l.types l.lengths l.data l.initial.out l.out l.i l.from l.at l.before.width l.before.value
