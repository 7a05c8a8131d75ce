-- `session_repair::searching::count_all` meets its contract: what is counted so far is the sum of the slots so far. Assumes nothing.
use Rattle.session_repair.proofs.Totals.{totalling-start, totalling-turn, totalling-done}
use Rattle.session_repair.proofs.searching.count_all.Goals as goal

pub loop-j-init : goal.loop-j-init
loop-j-init c = search totalling-start

pub loop-j-preserved : goal.loop-j-preserved
loop-j-preserved c = search totalling-turn

pub returns : goal.returns
returns c = search totalling-done
