-- `image_writer::put_count` meets its contract. Assumes nothing.
use Rattle.image_writer.proofs.Laying.{count_room, count-put}
use Rattle.image_writer.proofs.numbers.put_count.Goals as goal

pub put_digits-requires : goal.put_digits-requires
put_digits-requires c = count_room _ c.requires

pub returns : goal.returns
returns c = search count-put
