-- `session_check::no_sizes` meets its contract. The loop's invariant: ok says whether the messages below i have no length. Assumes
-- nothing.
use Rattle.datagram.specs.Sizes.{messages_limit}
use Rattle.session_check.specs.Pieces.{sizeless}
use Rattle.session_check.proofs.Turns.{Checked}
use Rattle.session_check.proofs.slots.no_sizes.Given as goal

abbrev pub invariant-loop-i : goal.invariant-loop-i
invariant-loop-i l = Checked messages_limit (sizeless l.table l.slot) l.ok l.i
