-- `program_loop::hand_over` meets its contract: a front up to a place within the buffer has so many octets. Assumes nothing.
use Rattle.std.proofs.Common.{sym, refl, length-take-le}
use Rattle.program_loop.proofs.Serving.{more-tallied}
use Rattle.program_loop.proofs.hand_over.Goals as goal

pub slice_bounds-front-end : goal.slice_bounds-front-end
slice_bounds-front-end g c = sym (length-take-le _ _ c.requires)

pub returns : goal.returns
returns g c = more-tallied c.args.handed.now (length-take-le _ _ c.requires) refl
