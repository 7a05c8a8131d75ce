-- `solve_algebra::pivot` meets its contract. The loop's invariant: no row that is passed has the column. Assumes nothing.
use Rattle.solve_algebra.proofs.Pivots.{seeking-start, seeking-turn, seeking-found, seeking-none}
use Rattle.solve_algebra.proofs.pivot.Goals as goal

pub loop-i-init : goal.loop-i-init
loop-i-init c = search seeking-start

pub returns-then-has : goal.returns-then-has
returns-then-has c = search seeking-found

pub loop-i-preserved : goal.loop-i-preserved
loop-i-preserved c = search seeking-turn

pub returns : goal.returns
returns c = search seeking-none
