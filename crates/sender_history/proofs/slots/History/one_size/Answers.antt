-- `sender_history::one_size` meets its contract. Assumes nothing.
use Rattle.std.proofs.Common.{rules}
use Rattle.sender_history.proofs.ItemSteps.{ones}
use Rattle.sender_history.proofs.slots.History.one_size.Goals as goal

pub spare_size-requires : goal.spare_size-requires
spare_size-requires c = (search rules, search ones)

pub message_size-requires : goal.message_size-requires
message_size-requires c = (search rules, search ones)

pub returns-in-Spares : goal.returns-in-Spares
returns-in-Spares c = search ones

pub returns-in-Parity : goal.returns-in-Parity
returns-in-Parity c = search ones
