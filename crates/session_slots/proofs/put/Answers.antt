-- `session_slots::put` meets its contract. Assumes nothing.
use Prim.Native.Nat.{◌-◌}
use native.Mathlib.Omega.{arith}
use Rattle.session_slots.proofs.Copying.{laying-start, putting-turn, laying-done}
use Rattle.session_slots.proofs.put.Goals as goal

pub loop-j-init : goal.loop-j-init
loop-j-init c = search laying-start

pub loop-j-preserved : goal.loop-j-preserved
loop-j-preserved c = search (putting-turn, arith)

pub returns : goal.returns
returns c = search laying-done
