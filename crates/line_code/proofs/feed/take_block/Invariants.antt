-- `line_code::take_block` meets its contract: what is taken in so far and what is left come to the whole, line after line.
-- Assumes nothing.
use Prim.Native.Nat.{◌-◌}
use lib.ListN.{length}
use Rattle.session_held.specs.Table.{lent}
use Rattle.line.specs.Feed.{going_in}
use Rattle.line_code.proofs.FeedLoop.{Fed}
use Rattle.line_code.proofs.feed.take_block.Given as goal

abbrev pub invariant-loop-taken : goal.invariant-loop-taken
invariant-loop-taken l = Fed (going_in (lent l.initial.after l.initial.moves l.initial.table l.initial.octets l.initial.messages) l.initial.line l.begun l.initial.out 0) l.block l.initial.out l.initial.line (lent l.after l.moves l.table l.octets l.messages) l.line l.kept l.taken l.out l.end

abbrev pub decreases-loop-taken : goal.decreases-loop-taken
decreases-loop-taken l = length l.block - l.taken
