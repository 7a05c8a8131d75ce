-- `session_check::mark_right` meets its contract: one law for each answer. Assumes nothing.
use Rattle.session_check.proofs.Slot.{marks}
use Rattle.session_check.proofs.slots.mark_right.Goals as goal

pub returns-then-m-eq0 : goal.returns-then-m-eq0
returns-then-m-eq0 c = search marks

pub returns-else-m-eq0 : goal.returns-else-m-eq0
returns-else-m-eq0 c = search marks

pub returns-else-mark-eq1 : goal.returns-else-mark-eq1
returns-else-mark-eq1 c = search marks
