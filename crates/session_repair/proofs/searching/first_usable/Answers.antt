-- `session_repair::searching::first_usable` meets its contract: what is left to search holds the whole answer, and the
-- messages seen are those of the numbers searched. Assumes nothing.
use Rattle.std.proofs.Common.{arith, refl}
use Rattle.session_repair.proofs.First.{seen_start, seen-hit, seen-turn, seen_done, seen-last}
use Rattle.session_repair.proofs.searching.first_usable.Goals as goal

pub loop-distance-init : goal.loop-distance-init
loop-distance-init c = search seen_start

pub overflow_add-seen : goal.overflow_add-seen
overflow_add-seen c = omega (arith, c.loop-distance.invariant.small, c.loop-distance.invariant.searched.few, c.count_at-seen.ensures.small)

pub loop-distance-preserved : goal.loop-distance-preserved
loop-distance-preserved c =
    seen-turn c.loop-distance.invariant c.loop-distance-test.true refl c.lowest_usable.ensures c.in_default.is c.heard_slot.ensures
    c.count_at-seen.ensures

pub returns-then-seen-total : goal.returns-then-seen-total
returns-then-seen-total c = seen_done c.loop-distance.invariant c.count_all-total.ensures c.if-seen-total.true

pub returns-in-Some : goal.returns-in-Some
returns-in-Some c = seen-hit c.loop-distance.invariant c.loop-distance-test.true refl c.lowest_usable.ensures c.in-Some.is

pub returns : goal.returns
returns c = search seen-last
