-- `line_code::find_feed` meets its contract: no line feed stands before the place, which goes on by many each turn. Assumes nothing.
use borrow.Author.Tests.{not-false}
use Rattle.line_code.proofs.FeedSteps.{begun-start, begun-far}
use Rattle.line_code.proofs.feed.find_feed.Goals as goal

pub loop-at-init : goal.loop-at-init
loop-at-init c = search begun-start

pub loop-at-preserved : goal.loop-at-preserved
loop-at-preserved c = search (begun-far, not-false)
