-- `session_held::Session::fresh_table` meets its contract. The loop's invariant: the states of numbers from the base on are 0, then blank
-- ones up to slot i, and zeros follow. Assumes nothing.
use Rattle.session_held.proofs.FreshSession.{Starting}
use Rattle.session_held.proofs.Session.fresh_table.Given as goal

abbrev pub invariant-loop-i : goal.invariant-loop-i
invariant-loop-i l = Starting l.table l.i
