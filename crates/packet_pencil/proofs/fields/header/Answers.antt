-- `packet_pencil::fields::header` meets its contract. Each answer is a law of `ReadField`. Assumes nothing.
use Rattle.std.proofs.lemmas.Result.{err_from_is_err_and}
use Rattle.packet_pencil.proofs.ReadField.{headers}
use Rattle.packet_pencil.proofs.fields.header.Goals as goal

pub returns-in_err-present : goal.returns-in_err-present
returns-in_err-present c =
    let p = err_from_is_err_and c.from_residual.result c.from_residual.ensures.1 in
    rw (p.1, p.2) (search (headers, c.in_err-present.was))

pub returns-in_err-kind : goal.returns-in_err-kind
returns-in_err-kind c =
    let p = err_from_is_err_and c.from_residual-in_err-kind.result c.from_residual-in_err-kind.ensures.1 in
    rw (p.1, p.2) (search (headers, c.in_ok-present.was, c.in_err-kind.was))

pub returns-then-right_data : goal.returns-then-right_data
returns-then-right_data c = search (headers, c.in_ok-present.was, c.in_ok-kind.was)

pub returns-else-right_data : goal.returns-else-right_data
returns-else-right_data c = search (headers, c.in_ok-present.was, c.in_ok-kind.was)
