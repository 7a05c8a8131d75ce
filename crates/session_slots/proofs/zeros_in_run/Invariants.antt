-- `session_slots::zeros_in_run` meets its contract. The loop's invariant: ok says whether the octets before this one are right. Assumes
-- nothing.
use Rattle.session_slots.proofs.Turns.{Checked}
use Rattle.session_slots.proofs.zeros_in_run.Given as goal

abbrev pub invariant-loop-j : goal.invariant-loop-j
invariant-loop-j l = Checked l.run l.n l.ok l.j
