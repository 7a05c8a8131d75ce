-- `packet_pencil::items::long` meets its contract. Each answer is a law of `ReadSizes`. Assumes nothing.
use Rattle.std.proofs.lemmas.Result.{err_from_is_err_and}
use Rattle.packet_pencil.proofs.ReadSizes.{longs}
use Rattle.packet_pencil.proofs.items.long.Goals as goal

pub returns-in_err-longer : goal.returns-in_err-longer
returns-in_err-longer c =
    let p = err_from_is_err_and c.from_residual.result c.from_residual.ensures.1 in
    rw (p.1, p.2) (search (longs, c.in_err-longer.was))

pub returns-then-longer : goal.returns-then-longer
returns-then-longer c = search (longs, c.in_ok-longer.was)

pub returns-in_err-value : goal.returns-in_err-value
returns-in_err-value c =
    let p = err_from_is_err_and c.from_residual-in_err-value.result c.from_residual-in_err-value.ensures.1 in
    rw (p.1, p.2) (search (longs, c.in_ok-longer.was, c.in_err-value.was))

pub returns-then-value-lt-LONG_LEAST : goal.returns-then-value-lt-LONG_LEAST
returns-then-value-lt-LONG_LEAST c = search (longs, c.in_ok-longer.was, c.in_ok-value.was)

pub returns-else-value-lt-LONG_LEAST : goal.returns-else-value-lt-LONG_LEAST
returns-else-value-lt-LONG_LEAST c = search (longs, c.in_ok-longer.was, c.in_ok-value.was)
