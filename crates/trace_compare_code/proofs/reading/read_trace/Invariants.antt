-- `trace_compare_code::read_trace` meets its contract. The invariant: what is kept, and what is still to be read, are the whole trace.
-- Assumes nothing.
use Prim.Native.Nat.{◌-◌}
use mathlib.Core.Path.{◌≡◌}
use lib.ListN.{length}
use Rattle.trace_compare_code.proofs.Turning.{ReadUpTo}
use Rattle.trace_compare_code.proofs.reading.read_trace.Given as goal

abbrev pub invariant-loop-at : goal.invariant-loop-at
invariant-loop-at l = ReadUpTo l.which l.trace l.numbers l.starts l.count l.line l.at × (length l.numbers ≡ length l.initial.numbers) × (length l.starts ≡ length l.initial.starts)

abbrev pub decreases-loop-at : goal.decreases-loop-at
decreases-loop-at l = length l.trace - l.at
