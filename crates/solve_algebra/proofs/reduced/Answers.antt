-- `solve_algebra::reduced` meets its contract. The loop's invariant: what is left to eliminate, done to the table now, gives the whole.
-- Assumes nothing.
use Rattle.std.proofs.Common.{rules}
use Rattle.solve_algebra.proofs.Turns.{reducing-start, rank-inside, reducing-turn, reducing-none, reducing-done}
use Rattle.solve_algebra.proofs.Turns.{mapped-long}
use Rattle.solve_algebra.proofs.reduced.Goals as goal
use Rattle.solve_algebra.proofs.reduced.Goals.{then-at-lt-COUNT, else-at-lt-COUNT}

pub loop-column-init : goal.loop-column-init
loop-column-init c = search (reducing-start, mapped-long)

pub swapped-requires-clause-b_lt_table_rows : goal.swapped-requires-clause-b_lt_table_rows
swapped-requires-clause-b_lt_table_rows c = search (rank-inside, rules)

pub cleared-table-requires-clause-at_lt_table_rows : goal.cleared-table-requires-clause-at_lt_table_rows
cleared-table-requires-clause-at_lt_table_rows c = search (rank-inside, rules)

pub loop-column-preserved : goal.loop-column-preserved
loop-column-preserved c =
    elim c.if-at-lt-COUNT.branch [
      | then-at-lt-COUNT w ↦ rw (w.table-is, w.rank-is) (search reducing-turn)
      | else-at-lt-COUNT w ↦ rw (w.table-is, w.rank-is) (search reducing-none)
    ]

pub returns : goal.returns
returns c = search reducing-done
