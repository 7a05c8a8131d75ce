-- `trace_compare_code::count_of` meets its contract. The invariant: how often the number stands so far. Assumes nothing.
use native.Mathlib.Omega.{arith}
use Rattle.trace_compare_code.proofs.Often.{counted_start, counted-hit, counted-miss, counted-all}
use Rattle.trace_compare_code.proofs.pairing.count_of.Goals as goal
use Rattle.trace_compare_code.proofs.pairing.count_of.Goals.{then-here-number, else-here-number}

pub loop-here-init : goal.loop-here-init
loop-here-init c = counted_start _ _

pub overflow_add-count : goal.overflow_add-count
overflow_add-count c = record { fits = omega (arith, c.loop-here.invariant.few, c.well_formed.0) }

pub loop-here-preserved : goal.loop-here-preserved
loop-here-preserved c =
    elim c.if-here-number.branch [
      | then-here-number w ↦ rw w.count-is (counted-hit c.loop-here.invariant c.loop-here-test.true w.if-here-number.true)
      | else-here-number w ↦ rw w.count-is (counted-miss c.loop-here.invariant c.loop-here-test.true w.if-here-number.false)
    ]

pub returns : goal.returns
returns c = counted-all c.loop-here.invariant c.loop-here-test.false
