-- `line_hex::pair_few` meets its contract: the octets so far stand at the front, one more each turn. Assumes nothing.
use Rattle.line_hex.proofs.HexSteps.{Paired}
use Rattle.line_hex.proofs.hex.pair_few.Given as goal

abbrev pub invariant-loop-i : goal.invariant-loop-i
invariant-loop-i l = Paired l.line l.initial.out l.out l.i
