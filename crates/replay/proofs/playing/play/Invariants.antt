-- `replay::playing::play` is safe and ends: between two blocks a line may come. Assumes nothing.
use Rattle.session_held.specs.Table.{lent}
use Rattle.replay.proofs.Turning.{Between}
use Rattle.replay.proofs.playing.play.Given as goal

abbrev pub invariant-loop : goal.invariant-loop
invariant-loop l = Between (lent l.after l.moves l.t l.o l.g) l.line l.block l.begun l.out l.end
