-- `line_code::find_from` meets its contract: no line feed stands before the place, which goes on each turn. Assumes nothing.
use Rattle.std.proofs.Common.{◌≡◌, length, arith, rules}
use Rattle.line_code.proofs.FeedSteps.{begun-turn, found-feed, found-end}
use Rattle.line_code.proofs.feed.find_from.Goals as goal

pub returns-then-s-at-eq-FEED : goal.returns-then-s-at-eq-FEED
returns-then-s-at-eq-FEED c = search found-feed

pub loop-at-preserved : goal.loop-at-preserved
loop-at-preserved c = search (begun-turn, rules)

pub returns : goal.returns
returns c =
    let all : c.loop-at.at ≡ length c.args.s.now = omega (arith, c.loop-at.invariant.inside, c.loop-at-test.false) in
    rw all at (found-end c.loop-at.invariant c.loop-at-test.false)
