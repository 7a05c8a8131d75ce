-- `image_reader::number_in` meets its contract: where its packet ends is within the line. Assumes nothing.
use Rattle.std.proofs.Common.{arith, rules}
use Rattle.image_reader.proofs.Parting.{item-ends}
use Rattle.image_reader.proofs.number.number_in.Goals as goal

pub overflow_add-packet : goal.overflow_add-packet
overflow_add-packet c = omega (arith, item-ends c.item_at.ensures c.in_ok-packet.was (search rules))

pub tail_at-requires : goal.tail_at-requires
tail_at-requires c = item-ends c.item_at.ensures c.in_ok-packet.was (search rules)
