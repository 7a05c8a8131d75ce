-- `frame_joiner::inside::feed` meets its contract. Assumes nothing.
use Rattle.frame_joiner.proofs.Feeding.{feedings, reached}
use Rattle.frame_joiner.proofs.inside.feed.Goals as goal

pub returns-then-not-in_ranges : goal.returns-then-not-in_ranges
returns-then-not-in_ranges c = search feedings

pub returns-then-kind-gt-TYPES : goal.returns-then-kind-gt-TYPES
returns-then-kind-gt-TYPES c = search feedings

pub returns-then-not-right_data : goal.returns-then-not-right_data
returns-then-not-right_data c = search feedings

pub returns-then-tainted : goal.returns-then-tainted
returns-then-tainted c = search feedings

pub join-requires : goal.join-requires
join-requires c = search reached

pub returns : goal.returns
returns c = search feedings
