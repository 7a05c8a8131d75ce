-- `line_code::put_result` meets its contract: three parts laid one after the other. Assumes nothing.
use Rattle.line_code.proofs.ResultSteps.{room-left, room-left-two, high-octet, low-octet, result-put}
use native.Mathlib.Omega.{arith}
use Rattle.line_code.proofs.results.put_result.Goals as goal

pub put_digits-end-requires : goal.put_digits-end-requires
put_digits-end-requires c = room-left _ _ c.put_digits-middle.ensures (omega arith)

pub end_line-requires : goal.end_line-requires
end_line-requires c = room-left-two _ _ 1 c.put_digits-middle.ensures c.put_digits-end.ensures (omega arith)

pub returns : goal.returns
returns c =
    result-put _ _ _ (high-octet (omega arith) c.to_be_bytes.ensures) (low-octet _ c.to_be_bytes.ensures) c.put_digits-middle.ensures c.put_digits-end.ensures c.end_line.ensures
