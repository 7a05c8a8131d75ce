-- `session_check::heard_right` meets its contract: one law for each answer. Assumes nothing.
use Rattle.session_check.proofs.Slot.{heards}
use Rattle.session_check.proofs.slots.heard_right.Goals as goal

pub returns-then-m-eq0 : goal.returns-then-m-eq0
returns-then-m-eq0 c = search heards

pub returns-then-not-mark_right : goal.returns-then-not-mark_right
returns-then-not-mark_right c = search heards

pub returns-else-m-eq0 : goal.returns-else-m-eq0
returns-else-m-eq0 c = search heards
