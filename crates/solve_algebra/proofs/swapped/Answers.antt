-- `solve_algebra::swapped` meets its contract. Assumes nothing.
use Rattle.std.proofs.Common.{rules}
use Rattle.solve_algebra.proofs.Turns.{swaps, swaps_set, mapped-long}
use Rattle.solve_algebra.proofs.swapped.Goals as goal

pub returns : goal.returns
returns c = search (swaps, swaps_set, mapped-long, rules)
