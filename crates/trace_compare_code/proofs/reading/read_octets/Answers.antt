-- `trace_compare_code::read_octets` meets its contract: the number that the reader found, or why it refused. Assumes nothing.
use Rattle.std.proofs.lemmas.Result.{err_from_is_err_and}
use Rattle.trace_compare_code.proofs.Holding.{octets-number, octets-refused}
use Rattle.trace_compare_code.proofs.reading.read_octets.Goals as goal

pub returns-in_err-read : goal.returns-in_err-read
returns-in_err-read c =
    let p = err_from_is_err_and c.from_residual.result c.from_residual.ensures.1 in
    rw (p.1, p.2) (octets-refused c.read.ensures c.in_err-read.was)

pub returns : goal.returns
returns c = octets-number c.read.ensures c.in_ok-read.was
