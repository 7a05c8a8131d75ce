-- `sender_history::put_items` meets its contract. Assumes nothing.
use Rattle.sender_history.proofs.ItemsSteps.{puttings}
use Rattle.sender_history.proofs.slots.History.put_items.Goals as goal

pub loop-j-init : goal.loop-j-init
loop-j-init c = search puttings

pub put_one-at-requires : goal.put_one-at-requires
put_one-at-requires c = search puttings

pub loop-j-preserved : goal.loop-j-preserved
loop-j-preserved c = search puttings

pub returns : goal.returns
returns c = search puttings
