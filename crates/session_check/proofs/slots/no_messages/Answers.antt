-- `session_check::no_messages` meets its contract: without lengths the slots decide. Assumes nothing.
use Rattle.std.proofs.Common.{◌≡◌, false, ◌∙◌}
use Rattle.octets.specs.Place.{all_below}
use Rattle.datagram.specs.Sizes.{messages_limit}
use Rattle.session_held.specs.Laid.{message_laid}
use Rattle.session_check.proofs.Slot.{none_passed, none-failed}
use Rattle.session_check.proofs.slots.no_messages.Goals as goal

pub returns-then-no_sizes : goal.returns-then-no_sizes
returns-then-no_sizes c = search none_passed

pub returns-else-no_sizes : goal.returns-else-no_sizes
returns-else-no_sizes c =
    let e : false ≡ all_below messages_limit (message_laid c.args.table.now c.args.messages.now c.args.slot 0) = search none-failed in
    c.if-no_sizes.false ∙ e
