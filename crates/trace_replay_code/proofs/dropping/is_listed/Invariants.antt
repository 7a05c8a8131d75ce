-- `trace_replay_code::dropping::is_listed` meets its contract. The invariant: what is found so far is whether the numbers before have it.
-- Assumes nothing.
use Rattle.trace_replay_code.proofs.Listing.{Searched}
use Rattle.trace_replay_code.proofs.dropping.is_listed.Given as goal

abbrev pub invariant-loop-n : goal.invariant-loop-n
invariant-loop-n l = Searched l.numbers l.number l.found l.n-index
