-- `replay::playing::finish` is safe: no line has begun, or the last one is done. Assumes nothing.
use Rattle.std.proofs.Common.{sym}
use Rattle.line.proofs.Laws.{begun-length}
use Rattle.replay.proofs.playing.finish.Goals as goal

pub slice_bounds-end_line-end : goal.slice_bounds-end_line-end
slice_bounds-end_line-end c = sym (begun-length c.requires.line)
