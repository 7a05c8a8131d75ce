-- `packet_writer::put_first` meets its contract. Two bits, the value and an octet edge are the first item. Assumes nothing.
use Rattle.packet_writer.proofs.PutItems.{firsts}
use Rattle.packet_writer.proofs.writer.put_first.Goals as goal

pub put_bits-all-requires : goal.put_bits-all-requires
put_bits-all-requires c = search firsts

pub put_edge-end-requires : goal.put_edge-end-requires
put_edge-end-requires c = search firsts

pub returns : goal.returns
returns c = search firsts
