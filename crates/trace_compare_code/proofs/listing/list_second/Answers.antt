-- `trace_compare_code::list_second` meets its contract. The invariant: what is listed, and what is still to come, are all entries. Assumes
-- nothing.
use native.Mathlib.Omega.{arith}
use Rattle.trace_compare_code.proofs.SecondLines.{second-start, second-long, second-turn, second-all}
use Rattle.trace_compare_code.proofs.listing.list_second.Goals as goal

pub loop-j-init : goal.loop-j-init
loop-j-init c = second-start _ _ _ _ c.requires

pub put_second-at-requires : goal.put_second-at-requires
put_second-at-requires c = record { j_in_bounds = c.loop-j-test.true; entry_room_in_bounds = omega (arith, c.loop-j.invariant.few, second-long c.loop-j.invariant, c.requires, c.loop-j-test.true) }

pub loop-j-preserved : goal.loop-j-preserved
loop-j-preserved c = second-turn c.loop-j.invariant c.loop-j-test.true c.put_second-at.ensures

pub shape_of-list : goal.shape_of-list
shape_of-list c = second-long c.loop-j.invariant

pub returns : goal.returns
returns c = second-all c.loop-j.invariant c.loop-j-test.false
