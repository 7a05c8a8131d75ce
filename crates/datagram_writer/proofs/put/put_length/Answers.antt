-- `datagram_writer::put_length` meets its contract. Assumes nothing.
use Rattle.datagram_writer.proofs.PutSteps.{puts}
use Rattle.datagram_writer.proofs.put.put_length.Goals as goal

pub returns-in-Ok : goal.returns-in-Ok
returns-in-Ok c = search puts

pub returns-in-Err : goal.returns-in-Err
returns-in-Err c = search puts
