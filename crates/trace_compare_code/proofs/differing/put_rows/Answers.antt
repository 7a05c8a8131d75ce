-- `trace_compare_code::put_rows` meets its contract: three entries at most, one behind the other. Assumes nothing.
use native.Mathlib.Omega.{arith}
use Rattle.trace_compare_code.proofs.DifferencesListing.{row_room, rows-put}
use Rattle.trace_compare_code.proofs.differing.put_rows.Goals as goal

pub put_row-four-requires : goal.put_row-four-requires
put_row-four-requires c = omega (arith, row_room _ _ _ 4 c.put_row-three.ensures c.requires)

pub put_row-requires : goal.put_row-requires
put_row-requires c = row_room _ _ _ 2 c.put_row-four.ensures (row_room _ _ _ 4 c.put_row-three.ensures c.requires)

pub returns : goal.returns
returns c =
    rows-put c.args.number c.args.packets c.args.extras c.args.first c.args.second
    c.put_row-three.ensures c.put_row-four.ensures c.put_row.ensures
