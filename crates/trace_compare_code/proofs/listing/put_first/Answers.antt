-- `trace_compare_code::put_first` meets its contract: the line pairs with the one found, or with none. Assumes nothing.
use mathlib.Core.Path.{sym}
use lib.Seq.{length-take-le}
use native.Mathlib.Omega.{arith}
use Rattle.trace_compare_code.proofs.FirstLines.{start-there, kept-holds, puts-only, puts-pair}
use Rattle.trace_compare_code.proofs.listing.put_first.Goals as goal

pub slice_bounds-count_of-end : goal.slice_bounds-count_of-end
slice_bounds-count_of-end c = sym (length-take-le _ _ (omega (arith, c.requires.i_in_bounds)))

pub offset_bounds-from-i : goal.offset_bounds-from-i
offset_bounds-from-i c = record { fits = omega (arith, start-there c.requires.kept_trace c.requires.i_in_bounds, c.well_formed.1.1.0) }

pub bounds-from-i : goal.bounds-from-i
bounds-from-i c = start-there c.requires.kept_trace c.requires.i_in_bounds

pub offset_bounds-to-j : goal.offset_bounds-to-j
offset_bounds-to-j c = record { fits = omega (arith, start-there c.requires.kept_trace_2 c.if-j-b.true, c.well_formed.1.1.1.1.1.0) }

pub bounds-to-j : goal.bounds-to-j
bounds-to-j c = start-there c.requires.kept_trace_2 c.if-j-b.true

pub put_pair-requires : goal.put_pair-requires
put_pair-requires c = record { holds_datagram = kept-holds c.requires.kept_trace _ c.requires.i_in_bounds; holds_datagram_2 = kept-holds c.requires.kept_trace_2 _ c.if-j-b.true; line_room_in_bounds = c.requires.line_room_in_bounds }

pub returns-then-j-b : goal.returns-then-j-b
returns-then-j-b c =
    puts-pair c.requires.kept_trace c.requires.kept_trace_2 _ c.count_of-k.ensures c.find_kth-j.ensures c.if-j-b.true
    c.put_pair.ensures

pub returns-else-j-b : goal.returns-else-j-b
returns-else-j-b c =
    puts-only c.requires.kept_trace c.requires.kept_trace_2 _ c.count_of-k.ensures c.find_kth-j.ensures c.if-j-b.false
    c.put_entry.ensures
