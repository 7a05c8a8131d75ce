-- `trace_replay_code::playing::replay_line` meets its contract: a dropped line leaves all as it is, any other is stepped. Assumes nothing.
use Rattle.trace_replay_code.proofs.Taking.{line-dropped, line-left}
use Rattle.trace_replay_code.proofs.playing.replay_line.Goals as goal

pub returns-then-is_dropped : goal.returns-then-is_dropped
returns-then-is_dropped c = line-dropped _ _ c.is_dropped.ensures c.if-is_dropped.true c.requires

pub returns : goal.returns
returns c = line-left _ _ c.is_dropped.ensures _ c.if-is_dropped.false c.step.ensures
