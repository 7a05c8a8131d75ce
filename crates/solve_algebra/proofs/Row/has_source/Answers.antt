-- `solve_algebra::Row::has_source` meets its contract. Assumes nothing.
use Rattle.std.proofs.Common.{rules}
use Rattle.solve_algebra.proofs.Sources.{sources}
use Rattle.solve_algebra.proofs.Row.has_source.Goals as goal

pub returns-then-e-lt-PLACES : goal.returns-then-e-lt-PLACES
returns-then-e-lt-PLACES c = search sources

pub returns-else-e-lt-PLACES : goal.returns-else-e-lt-PLACES
returns-else-e-lt-PLACES c = search (sources, rules)
