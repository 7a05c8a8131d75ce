-- `solve_code::sides::row_sum` meets its contract. The loop's invariant: the sum is that of the first e equations that the row has.
-- Assumes nothing.
use Rattle.std.proofs.Common.{refl, arith}
use Rattle.session_slots.specs.Store.{zeros}
use Rattle.solve_code.proofs.Summing.{sum-start, sum-adds, sum-skips, sum_done}
use Rattle.solve_code.proofs.sides.row_sum.Goals as goal
use Rattle.solve_code.proofs.sides.row_sum.Goals.{then-has_source, else-has_source}

pub loop-e-init : goal.loop-e-init
unfolding zeros
loop-e-init c = sum-start _ _

pub slice_bounds-add-end : goal.slice_bounds-add-end
slice_bounds-add-end c = let so = c.loop-e.invariant in omega (arith, so.long)

pub add-requires : goal.add-requires
add-requires c = record { has_slot = omega (arith, c.requires, c.loop-e-test.true); sum_len_bound = omega (arith, c.loop-e.invariant.long) }

pub loop-e-preserved : goal.loop-e-preserved
loop-e-preserved c =
    elim c.if-has_source.branch [
      | then-has_source w ↦ rw w.sum-is
          (sum-adds c.loop-e.invariant c.loop-e-test.true refl c.has_source.ensures w.if-has_source.true w.add.ensures)
      | else-has_source w ↦ rw w.sum-is (sum-skips c.loop-e.invariant c.loop-e-test.true refl c.has_source.ensures w.if-has_source.false)
    ]

pub returns : goal.returns
returns c = search sum_done
