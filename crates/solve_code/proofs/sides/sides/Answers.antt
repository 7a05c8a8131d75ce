-- `solve_code::sides::sides` meets its contract. The loop's invariant: what the first e equations ask for is laid. Assumes nothing.
use Rattle.std.proofs.Common.{arith, rules}
use Rattle.solve_code.proofs.Siding.{sides-start, slot-there, sides-turn, sides-done}
use Rattle.solve_code.proofs.sides.sides.Goals as goal

pub loop-e-init : goal.loop-e-init
loop-e-init c = search (sides-start, rules)

pub side-requires-clause-may_mend : goal.side-requires-clause-may_mend
side-requires-clause-may_mend c = c.requires

pub side-requires-clause-e_lt_table_rows : goal.side-requires-clause-e_lt_table_rows
side-requires-clause-e_lt_table_rows c = c.loop-e-test.true

pub slice_bounds-put-end : goal.slice_bounds-put-end
slice_bounds-put-end c = let so = c.loop-e.invariant in omega (arith, so.long)

pub slice_bounds-put-end-in-loop-e : goal.slice_bounds-put-end-in-loop-e
slice_bounds-put-end-in-loop-e c = let told = c.side.ensures in omega (arith, told.long)

pub put-requires : goal.put-requires
put-requires c = record { has_slot = slot-there c.loop-e.invariant c.loop-e-test.true; src_len_bound = omega (arith, c.side.ensures.long) }

pub loop-e-preserved : goal.loop-e-preserved
loop-e-preserved c = sides-turn c.loop-e.invariant c.loop-e-test.true c.side.ensures c.put.ensures

pub returns : goal.returns
returns c = search sides-done
