-- `frame_joiner::inside::refused` meets its contract. Assumes nothing.
use Rattle.frame_joiner.proofs.inside.refused.Goals as goal

pub returns : goal.returns
returns c = rw c.new.ensures.answer
