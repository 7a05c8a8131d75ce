-- `session_held::Session::fresh_table` meets its contract. The loop's invariant: the states of numbers from the base on are 0, then blank
-- ones up to slot i, and zeros follow. Assumes nothing.
use Rattle.session_held.proofs.FreshSession.{starting-start, starting-turn, starting-done}
use Rattle.session_held.proofs.Session.fresh_table.Goals as goal

pub loop-i-init : goal.loop-i-init
loop-i-init c = search starting-start

pub loop-i-preserved : goal.loop-i-preserved
loop-i-preserved c = search starting-turn

pub returns : goal.returns
returns c = search starting-done
