-- `sender_history::size_right` meets its contract. Assumes nothing.
use Rattle.sender_history.proofs.RangeSteps.{sizings}
use Rattle.sender_history.proofs.slots.size_right.Goals as goal

pub returns-then-at-lt-HISTORY : goal.returns-then-at-lt-HISTORY
returns-then-at-lt-HISTORY c = search sizings

pub returns-then-size-ge-LEAST : goal.returns-then-size-ge-LEAST
returns-then-size-ge-LEAST c = search sizings

pub returns-else-size-ge-LEAST : goal.returns-else-size-ge-LEAST
returns-else-size-ge-LEAST c = search sizings
