-- `trace_replay_code::dropping::is_listed` meets its contract. The invariant: what is found so far is whether the numbers before have it.
-- Assumes nothing.
use Rattle.std.proofs.Common.{rules}
use Rattle.trace_replay_code.proofs.Listing.{searched-start, searched-turn}
use Rattle.trace_replay_code.proofs.dropping.is_listed.Goals as goal

pub loop-n-init : goal.loop-n-init
loop-n-init c = searched-start _ _

pub loop-n-preserved : goal.loop-n-preserved
loop-n-preserved c = search (rules, searched-turn)
