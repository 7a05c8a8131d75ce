-- `packet_writer::past_fields` meets its contract. The loop's invariant: the place after what is left, from the place so far, is the
-- place after all. Assumes nothing.
use Rattle.std.proofs.Common.{arith, slice_index_or}
use Rattle.packet_laws.specs.Items.{Wide}
use Rattle.packet_laws.proofs.Laws.{passes}
use Rattle.packet_writer.proofs.sizes.past_fields.Goals as goal

pub loop-i-preserved : goal.loop-i-preserved
loop-i-preserved c =
    let wide : Wide (slice_index_or c.args.lengths.now c.loop-i.i 0) c.from.result
    = record { same = c.from.ensures; small = omega (arith, c.from.ensures, c.type_inv.lengths c.loop-i.i) } in
    search passes

pub returns : goal.returns
returns c = search passes
