-- `packet_pencil::fields::sequence` meets its contract. The loop's invariant: the fields that are left come after those that were
-- taken, which are in the first places. Assumes nothing.
use Rattle.packet_pencil.proofs.FieldsTurn.{Going}
use Rattle.packet_pencil.proofs.fields.sequence.Given as goal

abbrev pub invariant-loop-i : goal.invariant-loop-i
invariant-loop-i l = Going l.named l.octets l.from l.count l.fields l.at l.i
