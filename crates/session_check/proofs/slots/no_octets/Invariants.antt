-- `session_check::no_octets` meets its contract. The loop's invariant: ok says whether the octets below k are zero. Assumes nothing.
use Rattle.session_check.specs.Pieces.{held_octets, octet_zero}
use Rattle.session_check.proofs.Turns.{Checked}
use Rattle.session_check.proofs.slots.no_octets.Given as goal

abbrev pub invariant-loop-k : goal.invariant-loop-k
invariant-loop-k l = Checked held_octets (octet_zero l.messages l.slot) l.ok l.k
