-- `sender_history::put_message` meets its contract. Assumes nothing.
use Rattle.sender_history.proofs.ItemSteps.{one_puts, message-asked}
use Rattle.sender_history.proofs.slots.History.put_message.Goals as goal

pub slice_bounds-put_item-end : goal.slice_bounds-put_item-end
slice_bounds-put_item-end c = search one_puts

pub put_item-requires : goal.put_item-requires
put_item-requires c =
    message-asked c.requires
    c.message_size-size.ensures c.message_sum-sum.ensures

pub returns : goal.returns
returns c = search one_puts
