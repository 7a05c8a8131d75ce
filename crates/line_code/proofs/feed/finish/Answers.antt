-- `line_code::finish` meets its contract: no line has begun, or the last one is done. Assumes nothing.
use mathlib.Core.Path.{sym}
use Rattle.line.proofs.Laws.{begun-length}
use Rattle.line_code.proofs.FeedTurn.{ends-between, ends-line}
use Rattle.line_code.proofs.feed.finish.Goals as goal

pub returns-then-begun-eq0 : goal.returns-then-begun-eq0
returns-then-begun-eq0 c = ends-between c.requires c.if-begun-eq0.true

pub slice_bounds-step-end : goal.slice_bounds-step-end
slice_bounds-step-end c = sym (begun-length c.requires.line)

pub returns : goal.returns
returns c = ends-line c.requires c.if-begun-eq0.false c.step.ensures
