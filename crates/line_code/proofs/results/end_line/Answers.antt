-- `line_code::end_line` meets its contract: one character laid. Assumes nothing.
use Rattle.std.proofs.Common.{rules}
use Rattle.line_code.proofs.ResultSteps.{appends-single}
use Rattle.line_code.proofs.results.end_line.Goals as goal

pub returns : goal.returns
returns c = search (appends-single, rules)
