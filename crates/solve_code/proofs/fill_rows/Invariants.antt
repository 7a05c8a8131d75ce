-- `solve_code::fill_rows` meets its contract. The loop's invariant: what the rows of the turns so far fill is filled. Assumes nothing.
use Rattle.solve_code.proofs.Filling.{FilledTo}
use Rattle.solve_code.proofs.fill_rows.Given as goal

abbrev pub invariant-loop-row : goal.invariant-loop-row
invariant-loop-row l = FilledTo l.base l.all l.row-items l.initial.table l.initial.octets l.table l.octets l.row-index
