-- `sender_history::in_ranges` meets its contract. Assumes nothing.
use Rattle.std.proofs.Common.{rules}
use Rattle.sender_history.proofs.RangeSteps.{rangings}
use Rattle.sender_history.proofs.slots.in_ranges.Goals as goal

pub returns-then-sent-gt-LIMIT : goal.returns-then-sent-gt-LIMIT
returns-then-sent-gt-LIMIT c = search rangings

pub loop-p-init : goal.loop-p-init
loop-p-init c = (search rangings, search rules)

pub returns-then-not-place_right : goal.returns-then-not-place_right
returns-then-not-place_right c = search rangings

pub loop-p-preserved : goal.loop-p-preserved
loop-p-preserved c = (search rangings, search rules)

pub returns : goal.returns
returns c = search rangings
