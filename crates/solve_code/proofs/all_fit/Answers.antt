-- `solve_code::all_fit` meets its contract. The loop's invariant: ok says whether the rows of the turns so far fit. Assumes nothing.
use Rattle.solve_code.proofs.Fitting.{checked-start, checked-turn, checked-done}
use Rattle.solve_code.proofs.all_fit.Goals as goal

pub loop-row-init : goal.loop-row-init
loop-row-init c = search checked-start

pub loop-row-preserved : goal.loop-row-preserved
loop-row-preserved c = search checked-turn

pub returns : goal.returns
returns c = search checked-done
