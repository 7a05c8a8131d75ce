-- `line_code::put_kept` meets its contract: the part of the slot that is read. Assumes nothing.
use Rattle.line_code.proofs.ResultSteps.{kept_put}
use Rattle.line_code.proofs.results.put_kept.Goals as goal

pub returns : goal.returns
returns c = search kept_put
