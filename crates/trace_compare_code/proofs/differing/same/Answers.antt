-- `trace_compare_code::same` meets its contract: the library's equality is the rules'. Assumes nothing.
use mathlib.Core.Path.{◌∙◌}
use Rattle.trace_compare_code.proofs.Alike.{same_runs}
use Rattle.trace_compare_code.proofs.differing.same.Goals as goal

pub returns : goal.returns
returns c = c.eq.ensures ∙ same_runs _ _
