-- `session_check::all_heard_right` meets its contract. The loop's invariant: ok says whether the distances below d are right. Assumes
-- nothing.
use Rattle.session.specs.Cells.{kept_ahead}
use Rattle.session_check.specs.Pieces.{heard_test}
use Rattle.session_check.proofs.Turns.{Checked}
use Rattle.session_check.proofs.all_heard_right.Given as goal

abbrev pub invariant-loop-d : goal.invariant-loop-d
invariant-loop-d l = Checked kept_ahead (heard_test l.base-2 l.table l.messages) l.ok l.d
