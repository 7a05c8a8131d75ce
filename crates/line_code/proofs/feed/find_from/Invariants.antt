-- `line_code::find_from` meets its contract: no line feed stands before the place, which goes on each turn. Assumes nothing.
use Rattle.line.specs.FeedPromise.{Begun}
use Rattle.line_code.proofs.feed.find_from.Given as goal

abbrev pub invariant-loop-at : goal.invariant-loop-at
invariant-loop-at l = Begun l.s l.at
