-- `datagram_writer::length_size` meets its contract. Assumes nothing.
use Rattle.datagram_writer.proofs.ItemsSizeSteps.{sizes}
use Rattle.datagram_writer.proofs.put.length_size.Goals as goal

pub returns-then-n-lt-TWO_FROM : goal.returns-then-n-lt-TWO_FROM
returns-then-n-lt-TWO_FROM c = search sizes

pub returns-else-n-lt-TWO_FROM : goal.returns-else-n-lt-TWO_FROM
returns-else-n-lt-TWO_FROM c = search sizes
