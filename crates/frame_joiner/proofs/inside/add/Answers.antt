-- `frame_joiner::inside::add` meets its contract. Assumes nothing.
use Rattle.frame_joiner.proofs.Calls.{add-over, add-fits}
use Rattle.frame_joiner.proofs.inside.add.Goals as goal

pub returns-then-size-octets : goal.returns-then-size-octets
returns-then-size-octets c = search add-over

pub returns : goal.returns
returns c = search add-fits
