-- `session_slots::add` meets its contract. Assumes nothing.
use Rattle.session_slots.proofs.Turns.{slot_added}
use Rattle.session_slots.proofs.add.Goals as goal

pub returns : goal.returns
returns c = search slot_added
