-- `image_reader::first_in` meets its contract: its octets are the first line. Assumes nothing.
use Rattle.image_reader.proofs.FirstLine.{firsts}
use Rattle.image_reader.proofs.whole.first_in.Goals as goal

pub returns : goal.returns
returns c = search firsts
