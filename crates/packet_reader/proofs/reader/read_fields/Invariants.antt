-- `packet_reader::read_fields` meets its contract. The loop's invariant: the fields that are left, read from the
-- place that was reached, come after those that were read. Assumes nothing.
use Rattle.packet_reader.proofs.FieldsTurn.{Going}
use Rattle.packet_reader.proofs.reader.read_fields.Given as goal

abbrev pub invariant-loop-i : goal.invariant-loop-i
invariant-loop-i l = Going l.named l.octets l.count l.from l.fields l.p l.i
