-- `session_slots::passing` meets its contract. Assumes nothing.
use Rattle.session_slots.specs.Store.{mask}
use Rattle.session_slots.proofs.Laws.{mask-made}
use Rattle.session_slots.proofs.passing.Goals as goal

pub returns : goal.returns
unfolding mask
returns c = search mask-made
