-- `trace_replay_code::dropping::is_dropped` meets its contract: only a line with a listed number in front is read whole. Assumes nothing.
use mathlib.Core.Path.{refl, ◌∙◌}
use Rattle.trace_replay_code.proofs.Fronts.{dropped-nothing, dropped-unlisted, dropped-listed}
use Rattle.trace_replay_code.proofs.dropping.is_dropped.Goals as goal

pub returns-then-is_listed : goal.returns-then-is_listed
returns-then-is_listed c = dropped-listed _ _ c.in-Some.ensures refl c.is_listed.ensures c.if-is_listed.true c.reads.ensures

pub returns-else-is_listed : goal.returns-else-is_listed
returns-else-is_listed c = c.if-is_listed.false ∙ dropped-unlisted _ _ c.in-Some.ensures refl c.is_listed.ensures c.if-is_listed.false

pub returns-in-None : goal.returns-in-None
returns-in-None c = dropped-nothing _ _ c.in-None.ensures refl
