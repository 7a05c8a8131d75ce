-- `solve_algebra::Row::start` meets its contract. Assumes nothing.
use Rattle.std.proofs.Common.{rules}
use Rattle.solve_algebra.proofs.Sources.{starts}
use Rattle.solve_algebra.proofs.Row.start.Goals as goal

pub returns-then-e-lt-PLACES : goal.returns-then-e-lt-PLACES
returns-then-e-lt-PLACES c = search starts

pub returns-else-e-lt-PLACES : goal.returns-else-e-lt-PLACES
returns-else-e-lt-PLACES c = search (starts, rules)
