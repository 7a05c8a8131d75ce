-- `frame_joiner::inside::join` meets its contract. Assumes nothing.
use Rattle.frame_joiner.proofs.Calls.{joinings}
use Rattle.frame_joiner.proofs.inside.join.Goals as goal

pub returns-then-kind-eq0 : goal.returns-then-kind-eq0
returns-then-kind-eq0 c = search joinings

pub returns-then-hands_bad : goal.returns-then-hands_bad
returns-then-hands_bad c = search joinings

pub returns-then-hands_good-size : goal.returns-then-hands_good-size
returns-then-hands_good-size c = search joinings

pub returns-else-hands_good-size : goal.returns-else-hands_good-size
returns-else-hands_good-size c = search joinings
