-- `session_held::is_known` meets its contract. Assumes nothing.
use Rattle.session_held.proofs.Places.{known-told}
use Rattle.session_held.proofs.table.is_known.Goals as goal

pub returns : goal.returns
returns c = search known-told
