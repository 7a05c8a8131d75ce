-- `tbx_core_send_checked` meets its contract. Assumes nothing.
use Rattle.host.proofs.Sending.{sender-within, send-outside}
use Rattle.host.proofs.send_calls.tbx_core_send_checked.Goals as goal

pub tbx_core_send-requires : goal.tbx_core_send-requires
tbx_core_send-requires c = sender-within c.tbx_core_sender_in_ranges.ensures c.if-tbx_core_sender_in_ranges.true

pub returns : goal.returns
returns c = search send-outside
