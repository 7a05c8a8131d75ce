-- `line_code::turns_after` meets its contract: an empty line, and any other. Assumes nothing.
use Rattle.std.proofs.Common.{sym, ◌∙◌}
use borrow.Author.Tests.{eqb-true, eqb-false}
use Rattle.line_code.proofs.StepLaws.{turns-none, turns-some}
use Rattle.line_code.proofs.steps.turns_after.Goals as goal

pub returns-then-is_empty : goal.returns-then-is_empty
returns-then-is_empty c = turns-none _ (eqb-true _ 0 (sym c.is_empty.ensures ∙ c.if-is_empty.true))

pub returns-else-is_empty : goal.returns-else-is_empty
returns-else-is_empty c = turns-some _ (eqb-false _ 0 (sym c.is_empty.ensures ∙ c.if-is_empty.false))
