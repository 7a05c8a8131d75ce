-- `sender_history::put_next` meets its contract. Assumes nothing.
use Rattle.sender_history.proofs.NextSteps.{nexts}
use Rattle.sender_history.proofs.slots.History.put_next.Goals as goal

pub put_front-at-requires : goal.put_front-at-requires
put_front-at-requires c = search nexts

pub put_items-requires : goal.put_items-requires
put_items-requires c = search nexts

pub returns : goal.returns
returns c = search nexts
