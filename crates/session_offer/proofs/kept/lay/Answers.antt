-- `session_offer::lay` meets its contract: after i turns i messages are laid and every other slot is as it was. Assumes
-- nothing.
use Rattle.session_offer.proofs.Laying.{layings}
use Rattle.session_offer.proofs.kept.lay.Goals as goal

pub loop-i-init : goal.loop-i-init
loop-i-init c = search layings

pub put_part-size-requires : goal.put_part-size-requires
put_part-size-requires c = search layings

pub set_message_size-requires : goal.set_message_size-requires
set_message_size-requires c = search layings

pub loop-i-preserved : goal.loop-i-preserved
loop-i-preserved c = search layings

pub returns : goal.returns
returns c = search layings
