-- `line_code::put_refusal` meets its contract: two parts laid one after the other. Assumes nothing.
use Rattle.line_code.proofs.ResultSteps.{room-left, refusal-put}
use native.Mathlib.Omega.{arith}
use Rattle.line_code.proofs.results.put_refusal.Goals as goal

pub end_line-requires : goal.end_line-requires
end_line-requires c = room-left _ 1 c.put_digits-end.ensures (omega arith)

pub returns : goal.returns
returns c = refusal-put _ c.number-number.ensures c.put_digits-end.ensures c.end_line.ensures
