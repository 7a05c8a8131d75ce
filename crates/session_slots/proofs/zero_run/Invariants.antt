-- `session_slots::zero_run` meets its contract. The loop's invariant: ok says whether the octets before this one are zero. Assumes nothing.
use Rattle.session_slots.proofs.Turns.{Checked}
use Rattle.session_slots.proofs.zero_run.Given as goal

abbrev pub invariant-loop-octet : goal.invariant-loop-octet
invariant-loop-octet l = Checked l.run 0 l.ok l.octet-index
