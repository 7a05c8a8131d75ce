-- `packet_pencil::items::enumerated` meets its contract. Each answer is a law of `ReadValues`. Assumes nothing.
use Rattle.std.proofs.lemmas.Result.{err_from_is_err_and}
use Rattle.packet_pencil.proofs.ReadValues.{values}
use Rattle.packet_pencil.proofs.items.enumerated.Goals as goal

pub returns-then-not-values : goal.returns-then-not-values
returns-then-not-values c = search values

pub returns-in_err-extended : goal.returns-in_err-extended
returns-in_err-extended c =
    let p = err_from_is_err_and c.from_residual.result c.from_residual.ensures.1 in
    rw (p.1, p.2) (search (values, c.in_err-extended.was))

pub returns-then-extended : goal.returns-then-extended
returns-then-extended c = search (values, c.in_ok-extended.was)

pub returns-else-extended : goal.returns-else-extended
returns-else-extended c = search (values, c.in_ok-extended.was)
