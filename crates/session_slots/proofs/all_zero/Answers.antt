-- `session_slots::all_zero` meets its contract. Assumes nothing.
use Rattle.session_slots.proofs.Turns.{slot-checked}
use Rattle.session_slots.proofs.all_zero.Goals as goal

pub returns : goal.returns
returns c = search slot-checked
