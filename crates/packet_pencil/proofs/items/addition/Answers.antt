-- `packet_pencil::items::addition` meets its contract. Each answer is a law of `ReadValues`. Assumes nothing.
use Rattle.std.proofs.lemmas.Result.{err_from_is_err_and}
use Rattle.packet_pencil.proofs.ReadValues.{additions}
use Rattle.packet_pencil.proofs.items.addition.Goals as goal

pub returns-then-values-eq0 : goal.returns-then-values-eq0
returns-then-values-eq0 c = search additions

pub returns-in_err-large : goal.returns-in_err-large
returns-in_err-large c =
    let p = err_from_is_err_and c.from_residual.result c.from_residual.ensures.1 in
    rw (p.1, p.2) (search (additions, c.in_err-large.was))

pub returns-then-large : goal.returns-then-large
returns-then-large c = search (additions, c.in_ok-large.was)

pub returns-else-large : goal.returns-else-large
returns-else-large c = search (additions, c.in_ok-large.was)
