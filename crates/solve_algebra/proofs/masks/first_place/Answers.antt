-- `solve_algebra::first_place` meets its contract. Assumes nothing.
use Rattle.solve_algebra.proofs.Places.{trailing-first}
use Rattle.solve_algebra.proofs.masks.first_place.Goals as goal

pub returns : goal.returns
returns c = search trailing-first
