-- `packet_writer::put_counted` meets its contract. The count and then the fields are what is to be put; the length
-- writer never refuses here. Assumes nothing.
use Rattle.packet_writer.proofs.WritePacket.{counteds}
use Rattle.packet_writer.proofs.writer.put_counted.Goals as goal

pub returns-in_default : goal.returns-in_default
returns-in_default c = search counteds

pub put_fields-size-requires : goal.put_fields-size-requires
put_fields-size-requires c = search counteds

pub returns : goal.returns
returns c = search counteds
