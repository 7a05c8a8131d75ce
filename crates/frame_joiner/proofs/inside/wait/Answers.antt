-- `frame_joiner::inside::wait` meets its contract. Assumes nothing.
use Rattle.frame_joiner.proofs.inside.wait.Goals as goal

pub returns : goal.returns
returns c = rw c.ends_frame.ensures
