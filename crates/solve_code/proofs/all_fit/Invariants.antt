-- `solve_code::all_fit` meets its contract. The loop's invariant: ok says whether the rows of the turns so far fit. Assumes nothing.
use Rattle.solve_code.proofs.Fitting.{Checked}
use Rattle.solve_code.proofs.all_fit.Given as goal

abbrev pub invariant-loop-row : goal.invariant-loop-row
invariant-loop-row l = Checked l.all l.row-items l.ok l.row-index
