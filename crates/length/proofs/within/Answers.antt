-- `length::within` meets its contract. Assumes nothing.
use Rattle.length.proofs.Steps.{tests}
use Rattle.length.proofs.within.Goals as goal

pub returns-then-n-least : goal.returns-then-n-least
returns-then-n-least c = search tests

pub returns : goal.returns
returns c = search tests
