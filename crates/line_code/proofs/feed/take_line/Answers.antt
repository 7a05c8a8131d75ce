-- `line_code::take_line` meets its contract: the line goes on, is whole in this block, or began before it. Assumes nothing.
use mathlib.Core.Path.{sym}
use lib.Seq.{length-take-le}
use Rattle.line.proofs.Laws.{begun-length}
use Rattle.line_code.proofs.FeedTurn.{takes_part, takes-line, at_once, none-begun, kept-before}
use Rattle.line_code.proofs.feed.take_line.Goals as goal

pub returns-then-s-stop : goal.returns-then-s-stop
returns-then-s-stop c = takes_part c.requires.feedable c.requires.in_bounds c.find_feed-stop.ensures c.if-s-stop.true c.keep_line-kept.ensures

pub slice_bounds-step-end : goal.slice_bounds-step-end
slice_bounds-step-end c = sym (length-take-le c.find_feed-stop.result c.args.s.now c.find_feed-stop.ensures.begun.inside)

pub returns-then-begun-eq0 : goal.returns-then-begun-eq0
returns-then-begun-eq0 c =
    takes-line c.requires.feedable c.requires.in_bounds _ _ c.find_feed-stop.ensures c.if-s-stop.false
    (at_once _ c.args.s.now c.find_feed-stop.result _ c.if-begun-eq0.true) c.step-made.ensures
    (none-begun c.if-begun-eq0.true c.requires.feedable.line)

pub slice_bounds-keep_line-end : goal.slice_bounds-keep_line-end
slice_bounds-keep_line-end c = sym (length-take-le c.find_feed-stop.result c.args.s.now c.find_feed-stop.ensures.begun.inside)

pub slice_bounds-step-end-3 : goal.slice_bounds-step-end-3
slice_bounds-step-end-3 c = sym (begun-length c.keep_line-kept-2.ensures.holds)

pub returns : goal.returns
returns c =
    takes-line c.requires.feedable c.requires.in_bounds _ _ c.find_feed-stop.ensures c.if-s-stop.false (kept-before _ c.keep_line-kept-2.ensures)
    c.step-made-2.ensures c.clear_line.ensures
