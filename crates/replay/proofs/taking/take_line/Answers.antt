-- `replay::taking::take_line` meets its contract: the line is whole in its block, or its front was kept. Assumes nothing.
use Rattle.std.proofs.Common.{sym, refl}
use Rattle.line.proofs.Laws.{begun-length}
use Rattle.replay.proofs.Turning.{goes-line}
use Rattle.replay.proofs.taking.take_line.Goals as goal

pub returns-then-begun-eq0 : goal.returns-then-begun-eq0
returns-then-begun-eq0 c = goes-line c.if-begun-eq0.true c.requires.line c.end_line.ensures

pub slice_bounds-end_line-end-2 : goal.slice_bounds-end_line-end-2
slice_bounds-end_line-end-2 c = sym (begun-length c.keep_line-kept.ensures.holds)

pub returns : goal.returns
returns c = goes-line refl c.clear_line.ensures c.end_line-next.ensures
