-- `datagram_writer::write` meets its contract. Assumes nothing.
use Rattle.datagram_writer.proofs.WriteSteps.{writes}
use Rattle.datagram_writer.proofs.writer.write.Goals as goal

pub returns-then-not-counted : goal.returns-then-not-counted
returns-then-not-counted c = search writes

pub returns-then-not-summed : goal.returns-then-not-summed
returns-then-not-summed c = search writes

pub returns-then-not-sized : goal.returns-then-not-sized
returns-then-not-sized c = search writes

pub write_allowed-requires : goal.write_allowed-requires
write_allowed-requires c = search writes

pub returns : goal.returns
returns c = search writes
