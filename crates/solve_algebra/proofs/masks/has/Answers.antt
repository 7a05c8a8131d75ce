-- `solve_algebra::has` meets its contract: the bit, moved to the last place. Assumes nothing.
use Rattle.solve_algebra.proofs.Bits.{bit-tested}
use Rattle.solve_algebra.proofs.masks.has.Goals as goal

pub returns : goal.returns
returns c = search bit-tested
