-- `solve_algebra::places_back` meets its contract. The loop's invariant: the mask so far, with the places left, is the whole. Assumes
-- nothing.
use Rattle.std.proofs.Common.{rules}
use Rattle.solve_algebra.proofs.Back.{going_start, going-room, going-near, going-turn, going_done}
use Rattle.solve_algebra.proofs.masks.places_back.Goals as goal

pub loop-init : goal.loop-init
loop-init c = search going_start

pub overflow_sub-place : goal.overflow_sub-place
overflow_sub-place c = search going-room

pub one-mask-requires : goal.one-mask-requires
one-mask-requires c = search (going-near, rules)

pub loop-preserved : goal.loop-preserved
loop-preserved c = search (going-turn, rules)

pub returns : goal.returns
returns c = search going_done
