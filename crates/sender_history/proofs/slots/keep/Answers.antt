-- `sender_history::keep` meets its contract. Assumes nothing.
use Rattle.sender_history.proofs.KeepSteps.{keeping}
use Rattle.sender_history.proofs.slots.keep.Goals as goal

pub returns : goal.returns
returns c = search keeping
