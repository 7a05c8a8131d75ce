-- `octets::add` meets its contract. The loop's invariant: what the words left goes on, t octets of the tail are added. Assumes
-- nothing.
use Rattle.octets.proofs.Turns.{Finishing}
use Rattle.octets.proofs.add.Given as goal

abbrev pub invariant-loop-t : goal.invariant-loop-t
invariant-loop-t l = Finishing l.src l.initial.sum l.sum l.from l.tail l.t
