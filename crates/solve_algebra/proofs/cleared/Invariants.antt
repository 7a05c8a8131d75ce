-- `solve_algebra::cleared` meets its contract. The loop's invariant: the rows that are passed are cleared. Assumes nothing.
use Rattle.solve_algebra.proofs.Turns.{Clearing}
use Rattle.solve_algebra.proofs.cleared.Given as goal

abbrev pub invariant-loop-i : goal.invariant-loop-i
invariant-loop-i l = Clearing l.fn.rows l.at l.column l.next l.i
