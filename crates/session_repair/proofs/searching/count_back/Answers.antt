-- `session_repair::searching::count_back` meets its contract: what is counted, with what is left to count, is the whole. Assumes nothing.
use Rattle.session_repair.proofs.Turns.{counting-start, counting-turn, counting-done}
use Rattle.session_repair.proofs.searching.count_back.Goals as goal

pub loop-init : goal.loop-init
loop-init c = search counting-start

pub loop-preserved : goal.loop-preserved
loop-preserved c = search counting-turn

pub returns : goal.returns
returns c = search counting-done
