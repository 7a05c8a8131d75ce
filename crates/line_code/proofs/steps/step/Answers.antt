-- `line_code::step` meets its contract: the line's own answer, then the turns after it. Assumes nothing.
use Rattle.line_code.proofs.StepLaws.{turns-few, step-ready, step-made}
use Rattle.line_code.proofs.steps.step.Goals as goal

pub releases-requires : goal.releases-requires
releases-requires c = record { turns_bound = turns-few _ c.turns_after-turns.ensures; able = step-ready _ _ c.own_answer-end.ensures c.turns_after-turns.ensures c.requires.room }

pub returns : goal.returns
returns c = step-made _ _ c.own_answer-end.ensures c.turns_after-turns.ensures c.releases.ensures
