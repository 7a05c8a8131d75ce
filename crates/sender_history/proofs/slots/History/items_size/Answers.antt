-- `sender_history::items_size` meets its contract. Assumes nothing.
use Rattle.std.proofs.Common.{arith, rules}
use Rattle.sender_history.proofs.ItemsSteps.{totallings, total-fits}
use Rattle.sender_history.proofs.slots.History.items_size.Goals as goal

pub loop-j-init : goal.loop-j-init
loop-j-init c = search totallings

pub one_size-requires : goal.one_size-requires
one_size-requires c = (search rules, search totallings)

pub overflow_add-size : goal.overflow_add-size
overflow_add-size c =
    let few = total-fits c.loop-j.invariant c.requires.1 c.loop-j-test.true
    c.one_size.ensures c.item_size-size.ensures in
    omega arith

pub loop-j-preserved : goal.loop-j-preserved
loop-j-preserved c = search totallings

pub returns : goal.returns
returns c = search totallings
