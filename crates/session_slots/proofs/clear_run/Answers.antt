-- `session_slots::clear_run` meets its contract. Assumes nothing.
use Rattle.session_slots.specs.Store.{zeros}
use Rattle.session_slots.proofs.clear_run.Goals as goal

pub returns : goal.returns
unfolding zeros
returns c = c.fill.ensures.after (λ y e. e)
