-- `replay::taking::take_block` meets its contract: after each line the next may come, and the front of the last one is kept. What is left
-- of the block is the measure. Assumes nothing.
use Rattle.std.proofs.Common.{sym, ◌∙◌, arith}
use Rattle.replay.proofs.Turning.{feed-inside, goes-start, goes_then, goes_kept}
use Rattle.replay.proofs.taking.take_block.Goals as goal

pub loop-at-init : goal.loop-at-init
loop-at-init c = goes-start c.requires

pub overflow_add-feed : goal.overflow_add-feed
overflow_add-feed c =
    let inside = feed-inside c.args.block.now c.loop-at-test.true c.find_feed-stop.ensures in
    record { fits = omega (arith, c.well_formed.1.1.1.1.1.1.1.0, inside) }

pub keep_line-kept-requires : goal.keep_line-kept-requires
keep_line-kept-requires c = c.loop-at.invariant.ready.line

pub shape_of-line-then-block-feed : goal.shape_of-line-then-block-feed
shape_of-line-then-block-feed c = sym c.keep_line-kept.ensures.holds.size ∙ c.requires.line.size

pub shape_of-out-then-block-feed : goal.shape_of-out-then-block-feed
shape_of-out-then-block-feed c = c.loop-at.invariant.long

pub returns-then-block-feed : goal.returns-then-block-feed
returns-then-block-feed c = goes_kept c.loop-at.invariant c.keep_line-kept.ensures

pub take_line-next-requires : goal.take_line-next-requires
take_line-next-requires c = c.loop-at.invariant.ready

pub overflow_add-at : goal.overflow_add-at
overflow_add-at c = record { fits = omega (arith, c.well_formed.1.1.1.1.1.1.1.0, c.if-block-feed.false) }

pub shape_of-line-then-not-next : goal.shape_of-line-then-not-next
shape_of-line-then-not-next c = sym c.take_line-next.ensures.ready.line.size ∙ c.requires.line.size

pub shape_of-out-then-not-next : goal.shape_of-out-then-not-next
shape_of-out-then-not-next c = (goes_then c.loop-at.invariant c.take_line-next.ensures).long

pub returns-then-not-next : goal.returns-then-not-next
returns-then-not-next c = goes_then c.loop-at.invariant c.take_line-next.ensures

pub loop-at-smaller : goal.loop-at-smaller
loop-at-smaller c = omega (arith, c.loop-at-test.true)

pub loop-at-preserved : goal.loop-at-preserved
loop-at-preserved c = goes_then c.loop-at.invariant c.take_line-next.ensures

pub shape_of-line : goal.shape_of-line
shape_of-line c = sym c.loop-at.invariant.ready.line.size ∙ c.requires.line.size

pub shape_of-out : goal.shape_of-out
shape_of-out c = c.loop-at.invariant.long

pub returns : goal.returns
returns c = c.loop-at.invariant
