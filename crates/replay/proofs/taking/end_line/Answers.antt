-- `replay::taking::end_line` meets its contract: the text of the line goes out with all that waits, or waits. Assumes nothing.
use Rattle.replay.proofs.Turning.{line-out, line-waits}
use Rattle.replay.proofs.taking.end_line.Goals as goal

pub returns-then-out-end-lt-STEP : goal.returns-then-out-end-lt-STEP
returns-then-out-end-lt-STEP c = line-out c.requires c.replay_line-made.ensures

pub returns : goal.returns
returns c = line-waits c.requires c.replay_line-made.ensures c.if-out-end-lt-STEP.false
