-- `datagram_writer::put_items` meets its contract. Assumes nothing.
use native.Mathlib.Omega.{arith}
use Rattle.datagram_writer.proofs.ItemSteps.{goings, turning, item-asked}
use Rattle.datagram_writer.proofs.put.put_items.Goals as goal

pub slice_bounds-item-end : goal.slice_bounds-item-end
slice_bounds-item-end c =
    let t = turning c.loop-length.invariant c.loop-length-test.true c.from.ensures in
    omega arith

pub put_item-size-requires : goal.put_item-size-requires
put_item-size-requires c = item-asked (turning c.loop-length.invariant c.loop-length-test.true c.from.ensures) (omega arith)

pub loop-length-preserved : goal.loop-length-preserved
loop-length-preserved c = search goings

pub returns : goal.returns
returns c = search goings
