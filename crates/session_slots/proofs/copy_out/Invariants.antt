-- `session_slots::copy_out` meets its contract. Assumes nothing.
use Prim.Native.Nat.{◌-◌}
use Rattle.session_slots.specs.Store.{part}
use Rattle.session_slots.proofs.Copying.{Laying}
use Rattle.session_slots.proofs.copy_out.Given as goal

abbrev pub invariant-loop-j : goal.invariant-loop-j
invariant-loop-j l = Laying l.initial.out (part l.octets l.slot l.n) 0 l.out l.j
