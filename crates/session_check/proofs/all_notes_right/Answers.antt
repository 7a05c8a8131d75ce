-- `session_check::all_notes_right` meets its contract. The loop's invariant: ok says whether the slots below i are right. Assumes nothing.
use Rattle.std.proofs.Common.{refl, arith}
use Rattle.session_check.proofs.Turns.{checked-start, note-turn, checked-done}
use Rattle.session_check.proofs.all_notes_right.Goals as goal

pub loop-i-init : goal.loop-i-init
loop-i-init c = search checked-start

pub loop-i-preserved : goal.loop-i-preserved
loop-i-preserved c =
    note-turn c.args.base _ c.loop-i.invariant c.loop-i-test.true c.state_at-state.ensures c.note_at-note.ensures
    c.ranges.base.fits (omega arith) (omega (arith, c.ranges.base.fits)) refl refl c.note_right-right.ensures

pub returns : goal.returns
returns c = search checked-done
