-- `session_check::in_ranges` meets its contract: the four parts together are the ranges. Assumes nothing.
use Rattle.session_check.proofs.Same.{whole-right}
use Rattle.session_check.proofs.in_ranges.Goals as goal

pub returns : goal.returns
returns c = search whole-right
