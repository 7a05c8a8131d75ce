-- `image_reader::upper_run` meets its contract: upper-case digits alone stand before the place, which goes on by many each turn. Assumes
-- nothing.
use borrow.Author.Tests.{not-false}
use Rattle.image_reader.proofs.Digits.{upper-start, upper-far}
use Rattle.image_reader.proofs.text.upper_run.Goals as goal

pub loop-at-init : goal.loop-at-init
loop-at-init c = search upper-start

pub loop-at-preserved : goal.loop-at-preserved
loop-at-preserved c = search (upper-far, not-false)
