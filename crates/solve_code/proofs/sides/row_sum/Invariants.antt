-- `solve_code::sides::row_sum` meets its contract. The loop's invariant: the sum is that of the first e equations that the row has.
-- Assumes nothing.
use Rattle.solve_code.proofs.Summing.{SumTo}
use Rattle.solve_code.proofs.sides.row_sum.Given as goal

abbrev pub invariant-loop-e : goal.invariant-loop-e
invariant-loop-e l = SumTo l.all l.row l.sum l.e
