-- `packet_writer::put_header` meets its contract. The bit for data and then the type, after what waits, are the header. Assumes nothing.
use Rattle.packet_writer.proofs.PutItems.{headers}
use Rattle.packet_writer.proofs.writer.put_header.Goals as goal

pub put_bits-flag-requires : goal.put_bits-flag-requires
put_bits-flag-requires c = search headers

pub put_bits-all-requires : goal.put_bits-all-requires
put_bits-all-requires c = search headers

pub returns : goal.returns
returns c = search headers
