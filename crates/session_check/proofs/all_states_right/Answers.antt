-- `session_check::all_states_right` meets its contract. The loop's invariant: ok says whether the slots below i are right. Assumes
-- nothing.
use Rattle.std.proofs.Common.{arith, rules}
use Rattle.session_check.proofs.Turns.{checked-start, sum-small, state-turn, checked-done}
use Rattle.session_check.proofs.all_states_right.Goals as goal

pub loop-i-init : goal.loop-i-init
loop-i-init c = search checked-start

pub overflow_add-gone : goal.overflow_add-gone
overflow_add-gone c = search (sum-small, rules)

pub loop-i-preserved : goal.loop-i-preserved
loop-i-preserved c = search (state-turn, arith)

pub returns : goal.returns
returns c = search checked-done
