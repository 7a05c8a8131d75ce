-- `session_offer::put_part` meets its contract: the part that it cuts out has the size that the item says. Assumes nothing.
use Rattle.session_offer.proofs.Laying.{part-put}
use Rattle.session_offer.proofs.kept.put_part.Goals as goal

pub returns : goal.returns
returns c = search part-put
