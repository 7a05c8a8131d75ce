-- `octets::add` meets its contract. The loop's invariant: what the words left goes on, t octets of the tail are added. Assumes
-- nothing.
use native.Mathlib.Omega.{arith}
use Rattle.octets.proofs.Turns.{finishing-start, finishing-turn, finishing-done}
use Rattle.octets.proofs.add.Goals as goal

pub loop-t-init : goal.loop-t-init
loop-t-init c = finishing-start _ _ _ _ (omega arith)

pub loop-t-preserved : goal.loop-t-preserved
loop-t-preserved c = search finishing-turn

pub returns : goal.returns
returns c = search finishing-done
