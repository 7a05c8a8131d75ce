-- `packet_writer::put_packet` meets its contract. The first item, and then the count and the fields where there are any, are the
-- packet. Assumes nothing.
use Rattle.packet_writer.proofs.WritePacket.{packets}
use Rattle.packet_writer.proofs.writer.put_packet.Goals as goal

pub put_first-at-requires : goal.put_first-at-requires
put_first-at-requires c = search packets

pub returns-then-not-present : goal.returns-then-not-present
returns-then-not-present c = search packets

pub put_counted-size-requires : goal.put_counted-size-requires
put_counted-size-requires c = search packets

pub returns : goal.returns
returns c = search packets
