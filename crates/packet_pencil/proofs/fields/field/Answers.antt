-- `packet_pencil::fields::field` meets its contract. Each answer is a law of `ReadField`. Assumes nothing.
use Rattle.std.proofs.lemmas.Result.{err_from_is_err_and}
use Rattle.packet_pencil.proofs.ReadField.{fields}
use Rattle.packet_pencil.proofs.fields.field.Goals as goal

pub returns-in_err-kind : goal.returns-in_err-kind
returns-in_err-kind c =
    let p = err_from_is_err_and c.from_residual.result c.from_residual.ensures.1 in
    rw (p.1, p.2) (search (fields, c.in_err-kind.was))

pub returns-then-not-present : goal.returns-then-not-present
returns-then-not-present c = search (fields, c.in_ok-kind.was)

pub returns-in_err-start : goal.returns-in_err-start
returns-in_err-start c =
    let p = err_from_is_err_and c.from_residual-in_err-start.result c.from_residual-in_err-start.ensures.1 in
    rw (p.1, p.2) (search (fields, c.in_ok-kind.was, c.in_err-start.was))

pub returns : goal.returns
returns c = search (fields, c.in_ok-kind.was, c.in_ok-start.was)
