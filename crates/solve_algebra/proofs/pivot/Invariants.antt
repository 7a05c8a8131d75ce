-- `solve_algebra::pivot` meets its contract. The loop's invariant: no row that is passed has the column. Assumes nothing.
use Rattle.solve_algebra.proofs.Pivots.{Seeking}
use Rattle.solve_algebra.proofs.pivot.Given as goal

abbrev pub invariant-loop-i : goal.invariant-loop-i
invariant-loop-i l = Seeking l.rows l.from l.column l.i
