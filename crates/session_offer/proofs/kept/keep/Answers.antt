-- `session_offer::keep` meets its contract: a known number stays, an unknown one takes the packet. Assumes nothing.
use Rattle.session_offer.proofs.Keeping.{keepings}
use Rattle.session_offer.proofs.kept.keep.Goals as goal

pub returns-then-is_known : goal.returns-then-is_known
returns-then-is_known c = search keepings

pub returns : goal.returns
returns c = search keepings
