-- `session_slots::clear` meets its contract. Assumes nothing.
use Rattle.session_slots.proofs.Turns.{slot-cleared}
use Rattle.session_slots.proofs.clear.Goals as goal

pub returns : goal.returns
returns c = search slot-cleared
