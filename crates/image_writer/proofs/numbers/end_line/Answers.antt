-- `image_writer::end_line` meets its contract. Assumes nothing.
use Rattle.image_writer.proofs.Laying.{feed-put}
use Rattle.image_writer.proofs.numbers.end_line.Goals as goal

pub returns : goal.returns
returns c = search feed-put
