-- `tbx_core_send` meets its contract. Assumes nothing.
use Rattle.std.proofs.Common.{rules}
use mathlib.Core.Path.{refl}
use native.Mathlib.Omega.{arith}
use Rattle.sender.specs.Inner.Held.{Within}
use Rattle.host.proofs.Sending.{room-left, send-written, send-kept}
use Rattle.host.proofs.send_calls.tbx_core_send.Goals as goal

pub overflow_add-next : goal.overflow_add-next
overflow_add-next c =
    let within : Within c.args.sent c.args.sizes.now c.args.octets.now = search rules in
    let few = room-left within in
    omega arith

pub returns-in-Ok : goal.returns-in-Ok
returns-in-Ok c =
    send-written (search rules) c.settings_of-settings.ensures
    c.send_held-answer.ensures (search rules) refl

pub returns-in-Err : goal.returns-in-Err
returns-in-Err c =
    send-kept (search rules) c.settings_of-settings.ensures
    c.send_held-answer.ensures {why = c.in-Err.why} (search rules) (search rules)
