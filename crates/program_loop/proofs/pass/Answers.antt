-- `program_loop::pass` meets its contract: between two parts of the block the program may go on, the front of it is taken in and its text
-- handed over; each part takes some of it. Assumes nothing.
use Rattle.std.proofs.Common.{◌∙◌, arith}
use Rattle.line.proofs.Laws.{feedable-block}
use Rattle.program_loop.proofs.Serving.{serving-start, served, stopped, part-some, part-inside, part-fits, part-done}
use Rattle.program_loop.proofs.pass.Goals as goal

pub loop-from-init : goal.loop-from-init
loop-from-init g c = serving-start _ _ c.requires

pub take_block-part-requires : goal.take_block-part-requires
take_block-part-requires g c = feedable-block c.loop-from.invariant.feedable

pub overflow_add-from : goal.overflow_add-from
overflow_add-from g c =
    let within = part-inside c.args.block.now c.loop-from.invariant c.loop-from-test.true c.take_block-part.ensures in
    record { fits = omega (arith, c.well_formed.1.1.1.1.1.1.0, within) }

pub hand_over-requires : goal.hand_over-requires
hand_over-requires g c = part-fits c.args.block.now c.loop-from.invariant c.loop-from-test.true c.take_block-part.ensures

pub shape_of-line-then-not-hand_over : goal.shape_of-line-then-not-hand_over
shape_of-line-then-not-hand_over g c = c.take_block-part.auto.line ∙ c.loop-from.invariant.line-long

pub shape_of-out-then-not-hand_over : goal.shape_of-out-then-not-hand_over
shape_of-out-then-not-hand_over g c = c.take_block-part.ensures.takes.long ∙ c.loop-from.invariant.out-long

pub returns-then-not-hand_over : goal.returns-then-not-hand_over
returns-then-not-hand_over g c =
    stopped c.args.block.now
    (part-done c.args.block.now c.loop-from.invariant c.loop-from-test.true c.take_block-part.ensures
    c.take_block-part.auto.line c.hand_over.ensures)

pub loop-from-smaller : goal.loop-from-smaller
loop-from-smaller g c =
    let some = part-some c.args.block.now c.loop-from.invariant c.loop-from-test.true c.take_block-part.ensures in
    omega (arith, c.loop-from-test.true, some)

pub loop-from-preserved : goal.loop-from-preserved
loop-from-preserved g c =
    part-done c.args.block.now c.loop-from.invariant c.loop-from-test.true c.take_block-part.ensures
    c.take_block-part.auto.line c.hand_over.ensures

pub returns : goal.returns
returns g c = served _ c.loop-from.invariant c.loop-from-test.false
