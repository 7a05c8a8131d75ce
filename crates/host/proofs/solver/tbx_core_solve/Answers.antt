-- `tbx_core_solve` meets its contract. Assumes nothing.
use Rattle.std.proofs.Common.{rules}
use Rattle.host.proofs.Solving.{solve-hosted}
use Rattle.host.proofs.solver.tbx_core_solve.Goals as goal

pub returns : goal.returns
returns c = solve-hosted (search rules) (rw c.counts.ensures at c.solve_core-answer.ensures) c.solved_told.ensures
