-- `solve_code::sides::sides` meets its contract. The loop's invariant: what the first e equations ask for is laid. Assumes nothing.
use Rattle.solve_code.proofs.Siding.{SidesTo}
use Rattle.solve_code.proofs.sides.sides.Given as goal

abbrev pub invariant-loop-e : goal.invariant-loop-e
invariant-loop-e l = SidesTo l.base l.table l.octets l.messages l.all l.e
