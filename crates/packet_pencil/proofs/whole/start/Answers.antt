-- `packet_pencil::whole::start` meets its contract. Each answer is a law of `ReadStart`. Assumes nothing.
use Rattle.std.proofs.lemmas.Result.{err_from_is_err_and}
use Rattle.packet_pencil.proofs.ReadStart.{starts}
use Rattle.packet_pencil.proofs.whole.start.Goals as goal

pub returns-in_err-first : goal.returns-in_err-first
returns-in_err-first c =
    let p = err_from_is_err_and c.from_residual.result c.from_residual.ensures.1 in
    rw (p.1, p.2) (search (starts, c.in_err-first.was))

pub returns-in_err-edge : goal.returns-in_err-edge
returns-in_err-edge c =
    let p = err_from_is_err_and c.from_residual-in_err-edge.result c.from_residual-in_err-edge.ensures.1 in
    rw (p.1, p.2) (search (starts, c.in_ok-first.was, c.in_err-edge.was))

pub returns-then-right_fields : goal.returns-then-right_fields
returns-then-right_fields c = search (starts, c.in_ok-first.was, c.in_ok-edge.was)

pub returns-else-right_fields : goal.returns-else-right_fields
returns-else-right_fields c = search (starts, c.in_ok-first.was, c.in_ok-edge.was)
