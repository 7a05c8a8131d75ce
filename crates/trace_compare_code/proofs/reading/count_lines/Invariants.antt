-- `trace_compare_code::count_lines` meets its contract. The invariant: the lines so far and those that are left are all. Assumes nothing.
use Prim.Native.Nat.{◌-◌}
use lib.ListN.{length}
use Rattle.trace_compare_code.proofs.Cutting.{CountedLines}
use Rattle.trace_compare_code.proofs.reading.count_lines.Given as goal

abbrev pub invariant-loop-at : goal.invariant-loop-at
invariant-loop-at l = CountedLines l.trace l.count l.at

abbrev pub decreases-loop-at : goal.decreases-loop-at
decreases-loop-at l = length l.trace - l.at
