-- `sender_history::next_size` meets its contract. Assumes nothing.
use Rattle.std.proofs.Common.{arith}
use Rattle.sender.proofs.Laws.{packet-fits}
use Rattle.sender_history.proofs.NextSteps.{nexts, next-few}
use Rattle.sender_history.proofs.slots.History.next_size.Goals as goal

pub item_size-newest-requires : goal.item_size-newest-requires
item_size-newest-requires c = let short = packet-fits c.args.packet.now c.requires.newest in omega arith

pub overflow_add-result-2 : goal.overflow_add-result-2
overflow_add-result-2 c =
    let few = next-few c.requires c.item_size-newest.ensures
    c.kind_size-before.ensures c.items_size-items.ensures in omega arith

pub overflow_add-result-3 : goal.overflow_add-result-3
overflow_add-result-3 c =
    let few = next-few c.requires c.item_size-newest.ensures
    c.kind_size-before.ensures c.items_size-items.ensures in omega arith

pub overflow_add-result : goal.overflow_add-result
overflow_add-result c =
    let few = next-few c.requires c.item_size-newest.ensures
    c.kind_size-before.ensures c.items_size-items.ensures in omega arith

pub returns : goal.returns
returns c = search nexts
