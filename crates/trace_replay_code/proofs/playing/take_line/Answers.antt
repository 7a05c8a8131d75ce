-- `trace_replay_code::playing::take_line` meets its contract: up to the next line feed, or to the end of the trace. Assumes nothing.
use mathlib.Core.Path.{refl}
use Rattle.trace_replay_code.proofs.Taking.{takes-line, takes-last}
use Rattle.trace_replay_code.proofs.playing.take_line.Goals as goal

pub returns-then-stop-rest : goal.returns-then-stop-rest
returns-then-stop-rest c = takes-line _ _ _ c.requires.at_in_bounds c.find_feed-stop.ensures c.replay_line-made.ensures c.if-stop-rest.true refl

pub returns-else-stop-rest : goal.returns-else-stop-rest
returns-else-stop-rest c = takes-last _ _ _ c.requires.at_in_bounds c.find_feed-stop.ensures c.replay_line-made.ensures c.if-stop-rest.false refl
