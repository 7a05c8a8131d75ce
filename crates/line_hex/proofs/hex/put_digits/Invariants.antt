-- `line_hex::put_digits` meets its contract: the octets so far are written, two digits more each turn. Assumes nothing.
use Rattle.line_hex.proofs.HexSteps.{Hexed}
use Rattle.line_hex.proofs.hex.put_digits.Given as goal

abbrev pub invariant-loop-i : goal.invariant-loop-i
invariant-loop-i l = Hexed l.octets l.initial.out l.at l.out l.i
