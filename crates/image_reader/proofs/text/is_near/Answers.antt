-- `image_reader::is_near` meets its contract: the characters so far are told, one more each turn. Assumes nothing.
use Rattle.std.proofs.Common.{arith}
use Rattle.image_reader.proofs.Digits.{near-start, near-turn}
use Rattle.image_reader.proofs.text.is_near.Goals as goal

pub loop-j-init : goal.loop-j-init
loop-j-init c = near-start _ _

pub loop-j-preserved : goal.loop-j-preserved
loop-j-preserved c = near-turn c.loop-j.invariant (omega arith) c.is_upper-all.ensures
