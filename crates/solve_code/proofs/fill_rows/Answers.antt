-- `solve_code::fill_rows` meets its contract. The loop's invariant: what the rows of the turns so far fill is filled. Assumes nothing.
use Rattle.solve_code.proofs.Filling.{filled-start, filled-turn, filled-done}
use Rattle.solve_code.proofs.fill_rows.Goals as goal

pub loop-row-init : goal.loop-row-init
loop-row-init c = search filled-start

pub loop-row-preserved : goal.loop-row-preserved
loop-row-preserved c = search filled-turn

pub returns : goal.returns
returns c = search filled-done
