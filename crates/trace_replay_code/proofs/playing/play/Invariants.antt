-- `trace_replay_code::playing::play` meets its contract. The invariant: the text so far, and what is still to come of the rest of the
-- trace, are the whole replay. The measure is what is left of the trace. Assumes nothing.
use Prim.Native.Nat.{◌-◌}
use lib.ListN.{length}
use Rattle.session_held.specs.Table.{lent}
use Rattle.trace_replay_code.proofs.Loop.{Playing}
use Rattle.trace_replay_code.proofs.playing.play.Given as goal

abbrev pub invariant-loop-at : goal.invariant-loop-at
invariant-loop-at l = Playing l.numbers l.trace l.writes l.initial.out (lent l.initial.now l.initial.moves l.initial.t l.initial.o l.initial.g) (lent l.now l.moves l.t l.o l.g) l.at l.end l.out l.text

abbrev pub decreases-loop-at : goal.decreases-loop-at
decreases-loop-at l = length l.trace - l.at
