-- `packet_writer::write_named` meets its contract. Each answer is a law of `WritePacket`: what was measured is what is put.
-- Assumes nothing.
use Rattle.std.proofs.Common.{rules}
use Rattle.packet_writer.proofs.WritePacket.{writes}
use Rattle.packet_writer.proofs.writer.write_named.Goals as goal

pub put_packet-requires : goal.put_packet-requires
put_packet-requires c = search (rules, writes)

pub returns : goal.returns
returns c = search (rules, writes)
