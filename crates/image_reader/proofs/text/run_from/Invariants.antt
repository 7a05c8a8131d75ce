-- `image_reader::run_from` meets its contract: upper-case digits alone stand before the place, which goes on each turn. Assumes nothing.
use Rattle.image_reader.specs.Text.{UpperTo}
use Rattle.image_reader.proofs.text.run_from.Given as goal

abbrev pub invariant-loop-at : goal.invariant-loop-at
invariant-loop-at l = UpperTo l.s l.at
