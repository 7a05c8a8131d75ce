-- `session_repair::searching::count_all` meets its contract: what is counted so far is the sum of the slots so far. Assumes nothing.
use Rattle.session_repair.proofs.Totals.{Totalling}
use Rattle.session_repair.proofs.searching.count_all.Given as goal

abbrev pub invariant-loop-j : goal.invariant-loop-j
invariant-loop-j l = Totalling l.table l.total l.j
