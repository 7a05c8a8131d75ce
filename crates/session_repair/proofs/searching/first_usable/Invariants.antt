-- `session_repair::searching::first_usable` meets its contract: what is left to search holds the whole answer, and the
-- messages seen are those of the numbers searched. Assumes nothing.
use Rattle.session_repair.proofs.First.{Seen}
use Rattle.session_repair.proofs.searching.first_usable.Given as goal

abbrev pub invariant-loop-distance : goal.invariant-loop-distance
invariant-loop-distance l = Seen l.base l.table l.seen l.distance
