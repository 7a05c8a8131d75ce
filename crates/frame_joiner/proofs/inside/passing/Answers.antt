-- `frame_joiner::inside::passing` meets its contract. Assumes nothing.
use Rattle.session_slots.proofs.Laws.{mask-made}
use Rattle.frame_joiner.proofs.inside.passing.Goals as goal

pub returns : goal.returns
returns c = search mask-made
