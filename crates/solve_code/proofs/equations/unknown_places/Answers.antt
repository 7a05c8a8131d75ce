-- `solve_code::unknown_places` meets its contract. The loop's invariant: the mask has the unknown ones of the first p places. Assumes
-- nothing.
use Rattle.std.proofs.Common.{refl}
use Rattle.solve_code.proofs.Unknown.{unknown-start, unknown-turn, unknown-done}
use Rattle.solve_code.proofs.equations.unknown_places.Goals as goal

pub loop-p-init : goal.loop-p-init
loop-p-init c = search unknown-start

pub loop-p-preserved : goal.loop-p-preserved
loop-p-preserved c =
    unknown-turn c.loop-p.invariant c.loop-p-test.true refl refl refl c.kept_slot-slot.ensures
    c.is_known-known.ensures refl c.one_unless-mask.ensures

pub returns : goal.returns
returns c = search unknown-done
