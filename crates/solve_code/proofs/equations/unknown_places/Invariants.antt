-- `solve_code::unknown_places` meets its contract. The loop's invariant: the mask has the unknown ones of the first p places. Assumes
-- nothing.
use Rattle.solve_code.proofs.Unknown.{UnknownTo}
use Rattle.solve_code.proofs.equations.unknown_places.Given as goal

abbrev pub invariant-loop-p : goal.invariant-loop-p
invariant-loop-p l = UnknownTo l.base l.table l.mask l.p
