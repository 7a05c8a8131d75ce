-- `line_code::own_answer` meets its contract: an empty line, and any other. Assumes nothing.
use Rattle.std.proofs.Common.{sym, ◌∙◌}
use borrow.Author.Tests.{eqb-true, eqb-false}
use native.Mathlib.Omega.{arith}
use Rattle.line_code.proofs.StepLaws.{owns_none, owns-line}
use Rattle.line_code.proofs.steps.own_answer.Goals as goal

pub returns-then-is_empty : goal.returns-then-is_empty
returns-then-is_empty c = owns_none _ (eqb-true _ 0 (sym c.is_empty.ensures ∙ c.if-is_empty.true)) c.requires.within (omega (arith, c.requires.room))

pub returns-else-is_empty : goal.returns-else-is_empty
returns-else-is_empty c = owns-line _ _ (eqb-false _ 0 (sym c.is_empty.ensures ∙ c.if-is_empty.false)) c.offer_line.ensures
