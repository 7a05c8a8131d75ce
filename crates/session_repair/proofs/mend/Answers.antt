-- `session_repair::mend` meets its contract: what is left of the steps, done to what is there now, gives the whole. Assumes nothing.
use Rattle.std.proofs.Common.{arith}
use Rattle.session_repair.proofs.Fills.{mending-start, mending-stop, mending-usable, mending-points, mending-may}
use Rattle.session_repair.proofs.Fills.{mending-turn}
use Rattle.session_repair.proofs.Fills.{mending-end, searchable-now}
use Rattle.session_repair.proofs.mend.Goals as goal

pub loop-init : goal.loop-init
loop-init c = search mending-start

pub first_usable-requires : goal.first_usable-requires
first_usable-requires c = search searchable-now

pub returns-in_default : goal.returns-in_default
returns-in_default c = search mending-stop

pub fill-requires : goal.fill-requires
fill-requires c =
    let so = c.loop.invariant in
    let f = c.first_usable.ensures in
    let e = c.in-Some.is in record { may_mend = mending-may so; points = mending-points so f e; index_value = mending-usable so f e }

pub loop-preserved : goal.loop-preserved
loop-preserved c = mending-turn c.loop.invariant c.first_usable.ensures c.in-Some.is (omega arith) c.fill.ensures

pub returns : goal.returns
returns c = mending-end c.loop.invariant (omega (arith, c.loop-test.false))
