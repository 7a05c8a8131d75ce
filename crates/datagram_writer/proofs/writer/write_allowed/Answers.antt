-- `datagram_writer::write_allowed` meets its contract. Assumes nothing.
use Rattle.datagram_writer.proofs.WriteSteps.{writes}
use Rattle.datagram_writer.proofs.writer.write_allowed.Goals as goal

pub returns-then-out-size : goal.returns-then-out-size
returns-then-out-size c = search writes
