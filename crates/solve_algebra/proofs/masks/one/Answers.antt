-- `solve_algebra::one` meets its contract. Assumes nothing.
use Rattle.solve_algebra.proofs.Powers.{shifted_one}
use Rattle.solve_algebra.proofs.masks.one.Goals as goal

pub returns : goal.returns
returns c = search shifted_one
