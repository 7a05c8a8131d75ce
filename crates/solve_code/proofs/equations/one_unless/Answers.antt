-- `solve_code::one_unless` meets its contract. Assumes nothing.
use Rattle.solve_code.proofs.Unknown.{ones}
use Rattle.solve_code.proofs.equations.one_unless.Goals as goal

pub returns-then-known : goal.returns-then-known
returns-then-known c = search ones

pub returns-else-known : goal.returns-else-known
returns-else-known c = search ones
