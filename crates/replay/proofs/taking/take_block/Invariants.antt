-- `replay::taking::take_block` meets its contract: after each line the next may come, and the front of the last one is kept. What is left
-- of the block is the measure. Assumes nothing.
use Rattle.std.proofs.Common.{◌-◌, length}
use Rattle.session_held.specs.Table.{lent}
use Rattle.replay.specs.Promise.{Goes}
use Rattle.replay.proofs.taking.take_block.Given as goal

abbrev pub invariant-loop-at : goal.invariant-loop-at
invariant-loop-at l = Goes (lent l.base l.counts l.t l.o l.g) l.line l.begun l.initial.out l.out l.end

abbrev pub decreases-loop-at : goal.decreases-loop-at
decreases-loop-at l = length l.block - l.at
