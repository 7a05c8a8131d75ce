-- `session_slots::put` meets its contract. Assumes nothing.
use Prim.Native.Nat.{◌-◌}
use lib.ListN.{length}
use Rattle.session_slots.proofs.Copying.{Laying}
use Rattle.session_slots.proofs.put.Given as goal

abbrev pub invariant-loop-j : goal.invariant-loop-j
invariant-loop-j l = Laying l.initial.octets l.src l.at l.octets l.j
