-- `sender_history::put_spare` meets its contract. Assumes nothing.
use Rattle.sender_history.proofs.ItemSteps.{one_puts, spare-asked}
use Rattle.sender_history.proofs.slots.History.put_spare.Goals as goal

pub put_item-requires : goal.put_item-requires
put_item-requires c =
    spare-asked c.requires _
    c.spare_slot-slot.ensures c.spare_size-size.ensures

pub returns : goal.returns
returns c = search one_puts
