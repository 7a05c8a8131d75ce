-- `tbx_core_solve_checked` meets its contract. Assumes nothing.
use Rattle.host.proofs.Receiving.{within-hosted}
use Rattle.host.proofs.Solving.{solve-refused}
use Rattle.host.proofs.solver.tbx_core_solve_checked.Goals as goal

pub tbx_core_solve-requires : goal.tbx_core_solve-requires
tbx_core_solve-requires c = within-hosted c.tbx_core_in_ranges.ensures c.if-tbx_core_in_ranges.true

pub returns : goal.returns
returns c = search solve-refused
