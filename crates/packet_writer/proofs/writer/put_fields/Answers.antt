-- `packet_writer::put_fields` meets its contract. The loop's invariant: what is left to put, put after what is there now and what
-- waits, gives the whole. The sums fit because the fields end inside data and buffer.
-- Assumes nothing.
use Rattle.packet_writer.proofs.PutFields.{fills}
use Rattle.packet_writer.proofs.writer.put_fields.Goals as goal

pub slice_bounds-put_field-end : goal.slice_bounds-put_field-end
slice_bounds-put_field-end c = search fills

pub put_field-field-requires : goal.put_field-field-requires
put_field-field-requires c = search fills

pub loop-i-preserved : goal.loop-i-preserved
loop-i-preserved c = search fills

pub put_edge-end-requires : goal.put_edge-end-requires
put_edge-end-requires c = search fills

pub returns : goal.returns
returns c = search fills
