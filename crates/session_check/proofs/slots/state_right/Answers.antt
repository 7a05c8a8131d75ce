-- `session_check::state_right` meets its contract: its answer is the definition's, state by state. Assumes nothing.
use Rattle.session_check.proofs.Slot.{state-told}
use Rattle.session_check.proofs.slots.state_right.Goals as goal

pub returns : goal.returns
returns c = search state-told
