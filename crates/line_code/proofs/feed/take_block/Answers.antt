-- `line_code::take_block` meets its contract: what is taken in so far and what is left come to the whole, line after line.
-- Assumes nothing.
use native.Mathlib.Omega.{arith}
use Rattle.line_code.proofs.FeedLoop.{left-some, left-inside, fed-start, fed-ready, fed-turn, fed-full, fed-whole}
use Rattle.line_code.proofs.feed.take_block.Goals as goal

pub loop-taken-init : goal.loop-taken-init
loop-taken-init c = fed-start _ c.requires

pub returns-then-out-end-lt-STEP : goal.returns-then-out-end-lt-STEP
returns-then-out-end-lt-STEP c = fed-full c.loop-taken.invariant c.if-out-end-lt-STEP.true

pub take_line-part-requires : goal.take_line-part-requires
take_line-part-requires c = record { feedable = fed-ready c.loop-taken.invariant c.if-out-end-lt-STEP.false; in_bounds = left-some c.args.block.now _ c.loop-taken-test.true }

pub overflow_add-taken : goal.overflow_add-taken
overflow_add-taken c =
    let inside = left-inside c.args.block.now _ c.loop-taken-test.true c.take_line-part.ensures in
    record { fits = omega (arith, c.well_formed.1.1.1.1.1.1.1.0, inside) }

pub loop-taken-smaller : goal.loop-taken-smaller
loop-taken-smaller c = omega (arith, c.take_line-part.ensures.some, c.loop-taken-test.true)

pub loop-taken-preserved : goal.loop-taken-preserved
loop-taken-preserved c = fed-turn c.loop-taken.invariant c.loop-taken-test.true c.if-out-end-lt-STEP.false c.take_line-part.ensures

pub returns : goal.returns
returns c = fed-whole c.loop-taken.invariant c.loop-taken-test.false
