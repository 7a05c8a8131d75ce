-- `session_check::passed` meets its contract: the smaller of the two numbers. Assumes nothing.
use Rattle.session_check.proofs.Turns.{passes}
use Rattle.session_check.proofs.passed.Goals as goal

pub returns-then-whole : goal.returns-then-whole
returns-then-whole c = search passes

pub returns-else-whole : goal.returns-else-whole
returns-else-whole c = search passes
