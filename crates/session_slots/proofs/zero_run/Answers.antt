-- `session_slots::zero_run` meets its contract. The loop's invariant: ok says whether the octets below j are zero. The measure is the
-- octets left. Assumes nothing.
use Rattle.session_slots.proofs.Turns.{checked-start, zero_turn, checked-done}
use Rattle.session_slots.proofs.zero_run.Goals as goal

pub loop-octet-init : goal.loop-octet-init
loop-octet-init c = search checked-start

pub loop-octet-preserved : goal.loop-octet-preserved
loop-octet-preserved c = search zero_turn

pub returns : goal.returns
returns c = search checked-done
