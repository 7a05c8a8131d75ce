-- `session_check::messages_right` meets its contract. The loop's invariant: ok says whether the messages below i are right. Assumes
-- nothing.
use Rattle.std.proofs.Common.{arith}
use Rattle.session_check.proofs.Turns.{checked-start, message-turn, checked-done}
use Rattle.session_check.proofs.Slot.{most-few}
use Rattle.session_check.proofs.slots.messages_right.Goals as goal

pub loop-i-init : goal.loop-i-init
loop-i-init c = search checked-start

pub message_right-ok-requires-clause-limit_le_message_limit : goal.message_right-ok-requires-clause-limit_le_message_limit
message_right-ok-requires-clause-limit_le_message_limit c = search most-few

pub loop-i-preserved : goal.loop-i-preserved
loop-i-preserved c = search (message-turn, arith)

pub returns : goal.returns
returns c = search checked-done
