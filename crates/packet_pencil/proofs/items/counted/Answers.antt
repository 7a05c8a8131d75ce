-- `packet_pencil::items::counted` meets its contract. Each answer is a law of `ReadValues`. Assumes nothing.
use Rattle.std.proofs.lemmas.Result.{err_from_is_err_and}
use Rattle.packet_pencil.proofs.ReadValues.{additions}
use Rattle.packet_pencil.proofs.items.counted.Goals as goal

pub returns-in_err-which : goal.returns-in_err-which
returns-in_err-which c =
    let p = err_from_is_err_and c.from_residual.result c.from_residual.ensures.1 in
    rw (p.1, p.2) (search (additions, c.in_err-which.was))

pub returns-then-which-values : goal.returns-then-which-values
returns-then-which-values c = search (additions, c.in_ok-which.was)

pub returns-else-which-values : goal.returns-else-which-values
returns-else-which-values c = search (additions, c.in_ok-which.was)
