-- `sender_history::write_next` meets its contract. Assumes nothing.
use Rattle.sender_history.proofs.NextSteps.{nexts}
use Rattle.sender_history.proofs.slots.History.write_next.Goals as goal

pub next_size-size-requires : goal.next_size-size-requires
next_size-size-requires c = search nexts

pub returns-then-out-size : goal.returns-then-out-size
returns-then-out-size c = search nexts

pub put_next-written-requires : goal.put_next-written-requires
put_next-written-requires c = search nexts

pub returns : goal.returns
returns c = search nexts
