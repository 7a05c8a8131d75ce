-- `tbx_core_joiner_lost` meets its contract. Assumes nothing.
use Rattle.host.proofs.Joining.{hostings}
use Rattle.host.proofs.joiner.tbx_core_joiner_lost.Goals as goal

pub returns-then-no_flag : goal.returns-then-no_flag
returns-then-no_flag c = search hostings

pub returns : goal.returns
returns c = search hostings
