-- `trace_compare_code::count_lines` meets its contract. The invariant: the lines so far and those that are left are all. Assumes nothing.
use native.Mathlib.Omega.{arith}
use Rattle.trace_compare_code.proofs.Cutting.{lines_start, lines-turn, lines-all}
use Rattle.trace_compare_code.proofs.reading.count_lines.Goals as goal

pub loop-at-init : goal.loop-at-init
loop-at-init c = lines_start _

pub overflow_add-count : goal.overflow_add-count
overflow_add-count c = record { fits = omega (arith, c.loop-at.invariant.few, c.loop-at.invariant.inside, c.well_formed.0) }

pub loop-at-smaller : goal.loop-at-smaller
loop-at-smaller c = omega (arith, c.line_at-line.ensures.on, c.line_at-line.ensures.inside)

pub loop-at-preserved : goal.loop-at-preserved
loop-at-preserved c = lines-turn c.loop-at.invariant c.line_at-line.ensures

pub returns : goal.returns
returns c = lines-all c.loop-at.invariant c.loop-at-test.false
