-- `session_check::note_right` meets its contract: its answer is the definition's, state by state. Assumes nothing.
use Rattle.session_check.proofs.Slot.{note-told}
use Rattle.session_check.proofs.slots.note_right.Goals as goal

pub returns : goal.returns
returns c = search note-told
