-- `trace_compare_code::put_lines` meets its contract: lines of the same text differ in nothing, others are read again. Assumes nothing.
use mathlib.Core.Path.{sym}
use lib.Seq.{length-take-le}
use Rattle.trace_compare_code.proofs.Rereading.{same_lines, read-holds, other-lines}
use Rattle.trace_compare_code.proofs.texts.put_lines.Goals as goal

pub returns-then-same : goal.returns-then-same
returns-then-same c = same_lines _ _ _ c.same.ensures c.if-same.true c.requires.line_room_in_bounds

pub slice_bounds-left-end : goal.slice_bounds-left-end
slice_bounds-left-end c = c.octets_of-m.ensures.inside

pub slice_bounds-put_differences-end : goal.slice_bounds-put_differences-end
slice_bounds-put_differences-end c = sym (length-take-le _ _ c.octets_of-m.ensures.inside)

pub slice_bounds-right-end : goal.slice_bounds-right-end
slice_bounds-right-end c = c.octets_of-n.ensures.inside

pub slice_bounds-put_differences-end-2 : goal.slice_bounds-put_differences-end-2
slice_bounds-put_differences-end-2 c = sym (length-take-le _ _ c.octets_of-n.ensures.inside)

pub put_differences-requires : goal.put_differences-requires
put_differences-requires c = record { a_value = read-holds c.octets_of-m.ensures c.requires.a_value; b_value = read-holds c.octets_of-n.ensures c.requires.b_value; line_room_in_bounds = c.requires.line_room_in_bounds }

pub returns : goal.returns
returns c = other-lines _ c.octets_of-m.ensures c.octets_of-n.ensures c.put_differences.ensures
