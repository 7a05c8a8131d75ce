-- `packet_pencil::bits::align` meets its contract. Each answer is a law of `OneBit`. Assumes nothing.
use Rattle.std.proofs.lemmas.Result.{err_from_is_err_and}
use Rattle.packet_pencil.proofs.OneBit.{ones}
use Rattle.packet_pencil.proofs.bits.align.Goals as goal

pub returns-in_err-value : goal.returns-in_err-value
returns-in_err-value c =
    let p = err_from_is_err_and c.from_residual.result c.from_residual.ensures.1 in
    rw (p.1, p.2) (search (ones, c.in_err-value.was))

pub returns-then-value-eq0 : goal.returns-then-value-eq0
returns-then-value-eq0 c = search (ones, c.in_ok-value.was)

pub returns-else-value-eq0 : goal.returns-else-value-eq0
returns-else-value-eq0 c = search (ones, c.in_ok-value.was)
