-- `frame::Joiner::fresh` meets its contract. Assumes nothing.
use Rattle.frame.proofs.Laws.{laid_none}
use Rattle.frame.proofs.Joiner.fresh.Goals as goal

pub returns : goal.returns
returns c = record { state = rw laid_none }
