-- `datagram_writer::sums_to` meets its contract. Assumes nothing.
use Rattle.datagram_writer.proofs.WriteTests.{tests}
use Rattle.datagram_writer.proofs.writer.sums_to.Goals as goal

pub returns-then-left-n : goal.returns-then-left-n
returns-then-left-n c = search tests

pub loop-length-preserved : goal.loop-length-preserved
loop-length-preserved c = search tests

pub returns : goal.returns
returns c = search tests
