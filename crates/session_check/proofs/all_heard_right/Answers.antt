-- `session_check::all_heard_right` meets its contract. The loop's invariant: ok says whether the distances below d are right. Assumes
-- nothing.
use Rattle.std.proofs.Common.{arith}
use Rattle.session_check.proofs.Turns.{checked-start, heard-turn, checked-done}
use Rattle.session_check.proofs.all_heard_right.Goals as goal

pub loop-d-init : goal.loop-d-init
loop-d-init c = search checked-start

pub loop-d-preserved : goal.loop-d-preserved
loop-d-preserved c = search (heard-turn, arith)

pub returns : goal.returns
returns c = search checked-done
