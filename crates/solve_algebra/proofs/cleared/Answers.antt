-- `solve_algebra::cleared` meets its contract. The loop's invariant: the rows that are passed are cleared. Assumes nothing.
use Rattle.solve_algebra.proofs.Turns.{clearing-start, clearing-turn, clearing-done, mapped-long}
use Rattle.solve_algebra.proofs.cleared.Goals as goal

pub loop-i-init : goal.loop-i-init
loop-i-init c = search (clearing-start, mapped-long)

pub loop-i-preserved : goal.loop-i-preserved
loop-i-preserved c = search clearing-turn

pub returns : goal.returns
returns c = search clearing-done
