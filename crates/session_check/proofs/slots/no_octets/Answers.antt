-- `session_check::no_octets` meets its contract. The loop's invariant: ok says whether the octets below k are zero. Assumes nothing.
use Rattle.std.proofs.Common.{arith}
use Rattle.session_check.proofs.Turns.{checked-start, octet-turn, octets-done}
use Rattle.session_check.proofs.slots.no_octets.Goals as goal

pub loop-k-init : goal.loop-k-init
loop-k-init c = search checked-start

pub loop-k-preserved : goal.loop-k-preserved
loop-k-preserved c = search (octet-turn, arith)

pub returns : goal.returns
returns c = search octets-done
