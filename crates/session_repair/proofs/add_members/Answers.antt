-- `session_repair::add_members` meets its contract: what is summed, with what is left to sum, is the whole. Assumes nothing.
use Rattle.session_repair.proofs.Sums.{summing_start, summing-turn, summing-done}
use Rattle.session_repair.proofs.add_members.Goals as goal

pub loop-init : goal.loop-init
loop-init c = search summing_start

pub loop-preserved : goal.loop-preserved
loop-preserved c = search summing-turn

pub returns : goal.returns
returns c = search summing-done
