-- `session_check::messages_right` meets its contract. The loop's invariant: ok says whether the messages below i are right. Assumes
-- nothing.
use Rattle.datagram.specs.Sizes.{messages_limit}
use Rattle.session_held.specs.Laid.{message_laid}
use Rattle.session_check.proofs.Turns.{Checked}
use Rattle.session_check.proofs.slots.messages_right.Given as goal

abbrev pub invariant-loop-i : goal.invariant-loop-i
invariant-loop-i l = Checked messages_limit (message_laid l.table l.messages l.slot l.m) l.ok l.i
