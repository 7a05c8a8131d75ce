-- `line_code::is_plain` meets its contract: the characters so far are told, one more each turn. Assumes nothing.
use Rattle.std.proofs.Common.{rules}
use Rattle.line_code.proofs.FeedSteps.{plain-start, plain_turn, plain_done}
use Rattle.line_code.proofs.feed.is_plain.Goals as goal

pub loop-j-init : goal.loop-j-init
loop-j-init c = search plain-start

pub loop-j-preserved : goal.loop-j-preserved
loop-j-preserved c = search (plain_turn, rules)

pub returns : goal.returns
returns c = search plain_done
