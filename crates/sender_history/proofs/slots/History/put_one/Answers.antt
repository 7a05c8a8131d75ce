-- `sender_history::put_one` meets its contract. Assumes nothing.
use Rattle.sender_history.proofs.ItemSteps.{ones}
use Rattle.sender_history.proofs.slots.History.put_one.Goals as goal

pub put_spare-requires : goal.put_spare-requires
put_spare-requires c = search ones

pub put_message-requires : goal.put_message-requires
put_message-requires c = search ones

pub returns-in-Spares : goal.returns-in-Spares
returns-in-Spares c = search ones

pub returns-in-Parity : goal.returns-in-Parity
returns-in-Parity c = search ones
