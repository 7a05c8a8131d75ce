-- `sender_calls::send_held` meets its contract. Assumes nothing.
use Rattle.std.proofs.Common.{rules}
use Rattle.sender_calls.proofs.SendSteps.{packet-kept, keepings}
use Rattle.sender_calls.proofs.inner.send_held.Goals as goal

pub keep-requires : goal.keep-requires
keep-requires c = (search rules, packet-kept _ _ _ _ _ _ c.in_ok-n.was c.write_held.ensures)

pub returns-in_err-n : goal.returns-in_err-n
returns-in_err-n c = search (rules, keepings)

pub returns : goal.returns
returns c = search (rules, keepings)
