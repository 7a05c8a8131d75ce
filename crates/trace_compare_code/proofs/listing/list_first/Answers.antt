-- `trace_compare_code::list_first` meets its contract. The invariant: what is listed, and what is still to come, are all entries. Assumes
-- nothing.
use native.Mathlib.Omega.{arith}
use Rattle.trace_compare_code.proofs.FirstLines.{kept-long, kept_at, first-start, first-long, first-turn, first-all}
use Rattle.trace_compare_code.proofs.listing.list_first.Goals as goal

pub loop-i-init : goal.loop-i-init
loop-i-init c = first-start _ _ _

pub put_first-at-requires : goal.put_first-at-requires
put_first-at-requires c = record { kept_trace = c.requires.kept_trace; kept_trace_2 = c.requires.kept_trace_2; i_in_bounds = c.loop-i-test.true; line_room_in_bounds = omega (arith, c.loop-i.invariant.few, first-long c.loop-i.invariant, c.requires.a_in_bounds, c.loop-i-test.true) }

pub loop-i-preserved : goal.loop-i-preserved
loop-i-preserved c =
    let line = kept_at c.requires.kept_trace c.loop-i.i c.loop-i-test.true in
    first-turn c.loop-i.invariant line.0 line.1 c.put_first-at.ensures

pub shape_of-list : goal.shape_of-list
shape_of-list c = first-long c.loop-i.invariant

pub returns : goal.returns
returns c = first-all c.loop-i.invariant (omega (arith, kept-long c.requires.kept_trace, c.loop-i-test.false))
