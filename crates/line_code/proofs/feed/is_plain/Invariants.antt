-- `line_code::is_plain` meets its contract: the characters so far are told, one more each turn. Assumes nothing.
use Rattle.line_code.proofs.FeedSteps.{Plain}
use Rattle.line_code.proofs.feed.is_plain.Given as goal

abbrev pub invariant-loop-j : goal.invariant-loop-j
invariant-loop-j l = Plain l.s l.at l.plain l.j
