-- `sender_history::spare_size` meets its contract. Assumes nothing.
use Rattle.sender_history.proofs.ItemSteps.{one_puts}
use Rattle.sender_history.proofs.slots.History.spare_size.Goals as goal

pub returns : goal.returns
returns c = search one_puts
