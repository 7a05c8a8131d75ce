-- `packet_writer::put_field` meets its contract. A header after what waits, and with data an octet edge, the length and the data, are
-- the field. Assumes nothing.
use Rattle.packet_writer.proofs.PutItems.{fields}
use Rattle.packet_writer.proofs.writer.put_field.Goals as goal

pub put_header-requires : goal.put_header-requires
put_header-requires c = search fields

pub returns-then-data-lt1 : goal.returns-then-data-lt1
returns-then-data-lt1 c = search fields

pub put_header-header-requires : goal.put_header-header-requires
put_header-header-requires c = search fields

pub put_edge-requires : goal.put_edge-requires
put_edge-requires c = search fields

pub put_data-requires : goal.put_data-requires
put_data-requires c = search fields

pub returns : goal.returns
returns c = search fields
