-- `trace_compare_code::put_second` meets its contract: a line pairs if the first trace has more of its number than stand before it. Assumes
-- nothing.
use mathlib.Core.Path.{sym}
use lib.Seq.{length-take-le}
use native.Mathlib.Omega.{arith}
use Rattle.trace_compare_code.proofs.SecondLines.{second-pairs, second-only}
use Rattle.trace_compare_code.proofs.listing.put_second.Goals as goal

pub slice_bounds-count_of-end : goal.slice_bounds-count_of-end
slice_bounds-count_of-end c = sym (length-take-le _ _ (omega (arith, c.requires.j_in_bounds)))

pub returns-then-k-all : goal.returns-then-k-all
returns-then-k-all c = second-pairs _ _ _ c.count_of-k.ensures c.count_of-all.ensures c.if-k-all.true c.requires.entry_room_in_bounds

pub returns-else-k-all : goal.returns-else-k-all
returns-else-k-all c = second-only _ _ _ c.count_of-k.ensures c.count_of-all.ensures c.if-k-all.false c.put_entry.ensures
