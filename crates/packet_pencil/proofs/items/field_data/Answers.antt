-- `packet_pencil::items::field_data` meets its contract. Each answer is a law of `ReadData`. Assumes nothing.
use Rattle.std.proofs.lemmas.Result.{err_from_is_err_and}
use Rattle.packet_pencil.proofs.ReadData.{parts}
use Rattle.packet_pencil.proofs.items.field_data.Goals as goal

pub returns-in_err-size : goal.returns-in_err-size
returns-in_err-size c =
    let p = err_from_is_err_and c.from_residual.result c.from_residual.ensures.1 in
    rw (p.1, p.2) (search (parts, c.in_err-size.was))

pub returns-then-octets-start : goal.returns-then-octets-start
returns-then-octets-start c = search (parts, c.in_ok-size.was)

pub overflow_add-result : goal.overflow_add-result
overflow_add-result c = search (parts, c.in_ok-size.was)

pub returns-else-octets-start : goal.returns-else-octets-start
returns-else-octets-start c = search (parts, c.in_ok-size.was)
