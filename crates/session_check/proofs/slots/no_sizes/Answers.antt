-- `session_check::no_sizes` meets its contract. The loop's invariant: ok says whether the messages below i have no length. Assumes
-- nothing.
use Rattle.std.proofs.Common.{arith}
use Rattle.session_check.proofs.Turns.{checked-start, sizeless-turn, checked-done}
use Rattle.session_check.proofs.slots.no_sizes.Goals as goal

pub loop-i-init : goal.loop-i-init
loop-i-init c = search checked-start

pub loop-i-preserved : goal.loop-i-preserved
loop-i-preserved c = search (sizeless-turn, arith)

pub returns : goal.returns
returns c = search checked-done
