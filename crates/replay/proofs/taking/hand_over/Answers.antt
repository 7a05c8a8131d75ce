-- `replay::taking::hand_over` is safe: a front up to a place within the buffer. Assumes nothing.
use Rattle.std.proofs.Common.{sym, length-take-le}
use Rattle.replay.proofs.taking.hand_over.Goals as goal

pub slice_bounds-write_all-end : goal.slice_bounds-write_all-end
slice_bounds-write_all-end c = sym (length-take-le _ _ c.requires)
