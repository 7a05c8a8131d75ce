-- `line_hex::near` meets its contract: the octets so far are in the chunk, one more each turn. Assumes nothing.
use Rattle.line_hex.proofs.NearSteps.{Nearing}
use Rattle.line_hex.proofs.hex.near.Given as goal

abbrev pub invariant-loop-j : goal.invariant-loop-j
invariant-loop-j l = Nearing l.line l.from l.chunk l.j
