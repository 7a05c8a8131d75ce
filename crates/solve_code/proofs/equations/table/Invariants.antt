-- `solve_code::table` meets its contract. The loop's invariant: the first e rows are laid. Assumes nothing.
use Rattle.solve_code.proofs.Laying.{RowsTo}
use Rattle.solve_code.proofs.equations.table.Given as goal

abbrev pub invariant-loop-e : goal.invariant-loop-e
invariant-loop-e l = RowsTo l.base l.table l.rows l.e
