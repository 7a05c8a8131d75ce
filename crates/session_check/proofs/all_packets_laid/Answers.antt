-- `session_check::all_packets_laid` meets its contract. The loop's invariant: ok says whether the slots below i are right. Assumes
-- nothing.
use Rattle.std.proofs.Common.{arith}
use Rattle.session_check.proofs.Turns.{checked-start, size-fits-there, packet-turn, checked-done}
use Rattle.session_check.proofs.all_packets_laid.Goals as goal

pub loop-i-init : goal.loop-i-init
loop-i-init c = search checked-start

pub slot_right-right-requires-clause-size_le_packet_limit : goal.slot_right-right-requires-clause-size_le_packet_limit
slot_right-right-requires-clause-size_le_packet_limit c = search size-fits-there

pub loop-i-preserved : goal.loop-i-preserved
loop-i-preserved c = search (packet-turn, arith)

pub returns : goal.returns
returns c = search checked-done
