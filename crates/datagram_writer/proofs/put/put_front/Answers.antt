-- `datagram_writer::put_front` meets its contract. Assumes nothing.
use Rattle.datagram_writer.proofs.PutSteps.{head-asked}
use Rattle.datagram_writer.proofs.put.put_front.Goals as goal

pub put_head-head-requires : goal.put_head-head-requires
put_head-head-requires c = head-asked c.requires
