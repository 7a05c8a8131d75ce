-- `packet_pencil::bits::bits` meets its contract. The loop's invariant: the bits that are left, after those that were taken, are the
-- number. Assumes nothing.
use Rattle.packet_pencil.proofs.Taking.{Taking}
use Rattle.packet_pencil.proofs.bits.bits.Given as goal

abbrev pub invariant-loop : goal.invariant-loop
invariant-loop l = Taking l.n l.octets l.item l.at l.value l.next l.counter
