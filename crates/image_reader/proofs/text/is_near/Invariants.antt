-- `image_reader::is_near` meets its contract: the characters so far are told, one more each turn. Assumes nothing.
use Rattle.image_reader.proofs.Digits.{Near}
use Rattle.image_reader.proofs.text.is_near.Given as goal

abbrev pub invariant-loop-j : goal.invariant-loop-j
invariant-loop-j l = Near l.s l.at l.all l.j
