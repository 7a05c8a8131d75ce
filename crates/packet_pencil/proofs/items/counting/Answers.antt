-- `packet_pencil::items::counting` meets its contract. Each answer is a law of `ReadSizes`. Assumes nothing.
use Rattle.std.proofs.lemmas.Result.{err_from_is_err_and}
use Rattle.packet_pencil.proofs.ReadSizes.{lengths}
use Rattle.packet_pencil.proofs.items.counting.Goals as goal

pub returns-in_err-is_long : goal.returns-in_err-is_long
returns-in_err-is_long c =
    let p = err_from_is_err_and c.from_residual.result c.from_residual.ensures.1 in
    rw (p.1, p.2) (search (lengths, c.in_err-is_long.was))

pub returns-then-is_long : goal.returns-then-is_long
returns-then-is_long c = search (lengths, c.in_ok-is_long.was)

pub returns-else-is_long : goal.returns-else-is_long
returns-else-is_long c = search (lengths, c.in_ok-is_long.was)
