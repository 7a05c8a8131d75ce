-- `solve_algebra::reduced` meets its contract. The loop's invariant: what is left to eliminate, done to the table now, gives the whole.
-- Assumes nothing.
use Rattle.solve_algebra.proofs.Turns.{Reducing}
use Rattle.solve_algebra.proofs.reduced.Given as goal

abbrev pub invariant-loop-column : goal.invariant-loop-column
invariant-loop-column l = Reducing l.initial.table l.table l.rank l.column
