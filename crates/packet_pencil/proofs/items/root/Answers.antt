-- `packet_pencil::items::root` meets its contract. Each answer is a law of `ReadValues`. Assumes nothing.
use Rattle.std.proofs.lemmas.Result.{err_from_is_err_and}
use Rattle.packet_pencil.proofs.ReadValues.{roots}
use Rattle.packet_pencil.proofs.items.root.Goals as goal

pub returns-in_err-value : goal.returns-in_err-value
returns-in_err-value c =
    let p = err_from_is_err_and c.from_residual.result c.from_residual.ensures.1 in
    rw (p.1, p.2) (search (roots, c.in_err-value.was))

pub returns-then-value-values : goal.returns-then-value-values
returns-then-value-values c = search (roots, c.in_ok-value.was)

pub returns-else-value-values : goal.returns-else-value-values
returns-else-value-values c = search (roots, c.in_ok-value.was)
