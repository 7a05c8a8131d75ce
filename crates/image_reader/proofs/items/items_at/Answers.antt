-- `image_reader::items_at` meets its contract. The loop's invariant: what is left to read, put behind what was read, is the whole. Assumes
-- nothing.
use Rattle.std.proofs.Common.{arith, rules}
use Rattle.image_reader.proofs.Parting.{turns, turn-again, item-ends}
use Rattle.image_reader.proofs.items.items_at.Goals as goal

pub loop-i-init : goal.loop-i-init
loop-i-init c = search turns

pub returns-in_err-part : goal.returns-in_err-part
returns-in_err-part c = search (turns, rules)

pub overflow_add-at : goal.overflow_add-at
overflow_add-at c = omega (arith, item-ends c.item_at.ensures c.in_ok-part.was (search rules))

pub loop-i-preserved : goal.loop-i-preserved
loop-i-preserved c = turn-again c.loop-i.invariant (omega arith) c.item_at.ensures c.in_ok-part.was

pub returns : goal.returns
returns c = search (turns, rules)
