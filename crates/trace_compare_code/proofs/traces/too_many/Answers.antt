-- `trace_compare_code::too_many` meets its contract: one trace, then the other. Assumes nothing.
use Rattle.std.proofs.Common.{◌∙◌}
use borrow.Author.Tests.{lt-ltb}
use Rattle.trace_compare_code.proofs.Whole.{too-many-one, too-many-two}
use Rattle.trace_compare_code.proofs.traces.too_many.Goals as goal

pub returns-then-count_lines-gt-LINES : goal.returns-then-count_lines-gt-LINES
returns-then-count_lines-gt-LINES c = lt-ltb _ _ c.if-count_lines-gt-LINES.true ∙ too-many-one _ _ c.count_lines.ensures c.if-count_lines-gt-LINES.true

pub returns-else-count_lines-gt-LINES : goal.returns-else-count_lines-gt-LINES
returns-else-count_lines-gt-LINES c = too-many-two _ _ c.count_lines.ensures c.if-count_lines-gt-LINES.false c.count_lines-else-count_lines-gt-LINES.ensures
