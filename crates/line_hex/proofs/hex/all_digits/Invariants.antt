-- `line_hex::all_digits` meets its contract: the characters so far are told, one more each turn. Assumes nothing.
use Rattle.line_hex.proofs.HexSteps.{Told}
use Rattle.line_hex.proofs.hex.all_digits.Given as goal

abbrev pub invariant-loop-c : goal.invariant-loop-c
invariant-loop-c l = Told l.line l.all l.c-index
