-- `trace_compare_code::read_line` meets its contract: a line that has octets holds what they are. Assumes nothing.
use Rattle.std.proofs.lemmas.Result.{err_from_is_err_and}
use native.Mathlib.Omega.{arith}
use Rattle.trace_compare_code.proofs.Holding.{line-number, line_refused}
use Rattle.trace_compare_code.proofs.reading.read_line.Goals as goal

pub returns-in_err-size : goal.returns-in_err-size
returns-in_err-size c =
    let p = err_from_is_err_and c.from_residual.result c.from_residual.ensures.1 in
    rw (p.1, p.2) (line_refused _ (omega arith) c.hex_to_octets.ensures c.in_err-size.was)

pub returns : goal.returns
returns c =
    line-number _ (omega arith) c.hex_to_octets.ensures c.read_octets.result c.in_ok-size.was
    c.read_octets.ensures
