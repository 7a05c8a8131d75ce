-- `frame_joiner::inside::drop_open` meets its contract. Assumes nothing.
use Rattle.std.proofs.Common.{rules}
use Rattle.frame_joiner.proofs.inside.drop_open.Goals as goal

pub returns : goal.returns
returns c = record { kept = search rules; storage = search rules }
