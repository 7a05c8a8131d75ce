-- `solve_algebra::Row::combined` meets its contract. Assumes nothing.
use Rattle.solve_algebra.proofs.Turns.{combines}
use Rattle.solve_algebra.proofs.Row.combined.Goals as goal

pub returns : goal.returns
returns c = search combines
