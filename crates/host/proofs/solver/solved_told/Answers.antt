-- `solved_told` meets its contract. Assumes nothing.
use Rattle.host.proofs.Solving.{telling}
use Rattle.host.proofs.solver.solved_told.Goals as goal

pub returns-in-Ok : goal.returns-in-Ok
returns-in-Ok c = search telling

pub returns-in-Err : goal.returns-in-Err
returns-in-Err c = search telling
