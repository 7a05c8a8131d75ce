-- `session_slots::zeros_in_run` meets its contract. The loop's invariant: ok says whether the octets below j are right. The measure is the
-- octets left. Assumes nothing.
use Rattle.session_slots.proofs.Turns.{checked-start, checked-turn, checked-done, table-inside}
use Rattle.session_slots.proofs.zeros_in_run.Goals as goal

pub loop-j-init : goal.loop-j-init
loop-j-init c = search checked-start

pub bounds-table-from : goal.bounds-table-from
bounds-table-from c = search table-inside

pub loop-j-preserved : goal.loop-j-preserved
loop-j-preserved c =
    checked-turn c.loop-j.invariant c.loop-j-test.true c.requires.n_in_bounds c.requires.table_value
    (c.type_inv.run c.loop-j.j).fits

pub returns : goal.returns
returns c = search checked-done
