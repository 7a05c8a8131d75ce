-- `session_release::free_messages` meets its contract: after i turns i messages are cleared and every other slot is as it was. Assumes
-- nothing.
use Rattle.session_release.proofs.Freeing.{freeings}
use Rattle.session_release.proofs.free_messages.Goals as goal

pub loop-i-init : goal.loop-i-init
loop-i-init c = search freeings

pub clear-requires : goal.clear-requires
clear-requires c = search freeings

pub loop-i-preserved : goal.loop-i-preserved
loop-i-preserved c = search freeings

pub shape_of-messages : goal.shape_of-messages
shape_of-messages c = c.loop-i.invariant.freed.long

pub returns : goal.returns
returns c = search freeings
