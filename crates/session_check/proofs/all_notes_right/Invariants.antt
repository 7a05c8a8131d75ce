-- `session_check::all_notes_right` meets its contract. The loop's invariant: ok says whether the slots below i are right. Assumes nothing.
use Rattle.session_held.specs.Slots.{slots_kept}
use Rattle.session_check.specs.Pieces.{note_test}
use Rattle.session_check.proofs.Turns.{Checked}
use Rattle.session_check.proofs.all_notes_right.Given as goal

abbrev pub invariant-loop-i : goal.invariant-loop-i
invariant-loop-i l = Checked slots_kept (note_test l.base l.table) l.ok l.i
