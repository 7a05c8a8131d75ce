-- `session_repair::searching::find_back` meets its contract: what is left to search holds the whole answer. Assumes nothing.
use Rattle.session_repair.proofs.Turns.{finding-start, finding-turn, found, finding-done}
use Rattle.session_repair.proofs.searching.find_back.Goals as goal

pub loop-init : goal.loop-init
loop-init c = search finding-start

pub returns-then-unknown_one-eq1 : goal.returns-then-unknown_one-eq1
returns-then-unknown_one-eq1 c = search found

pub loop-preserved : goal.loop-preserved
loop-preserved c = search finding-turn

pub returns : goal.returns
returns c = search finding-done
