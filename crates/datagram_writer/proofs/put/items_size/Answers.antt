-- `datagram_writer::items_size` meets its contract. Assumes nothing.
use native.Mathlib.Omega.{arith}
use Rattle.datagram_writer.proofs.ItemsSizeSteps.{sizes, sizing}
use Rattle.datagram_writer.proofs.put.items_size.Goals as goal

pub loop-length-init : goal.loop-length-init
loop-length-init c = search sizes

pub item_size-size-requires : goal.item_size-size-requires
item_size-size-requires c = (sizing c.loop-length.invariant c.loop-length-test.true c.from.ensures).small

pub overflow_add-size : goal.overflow_add-size
overflow_add-size c =
    let t = sizing c.loop-length.invariant c.loop-length-test.true c.from.ensures in
    omega arith

pub loop-length-preserved : goal.loop-length-preserved
loop-length-preserved c = search sizes

pub returns : goal.returns
returns c = search sizes
