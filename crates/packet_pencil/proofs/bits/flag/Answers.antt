-- `packet_pencil::bits::flag` meets its contract. Each answer is a law of `OneBit`. Assumes nothing.
use Rattle.std.proofs.lemmas.Result.{err_from_is_err_and}
use Rattle.packet_pencil.proofs.OneBit.{ones}
use Rattle.packet_pencil.proofs.bits.flag.Goals as goal

pub returns-in_err-one : goal.returns-in_err-one
returns-in_err-one c =
    let p = err_from_is_err_and c.from_residual.result c.from_residual.ensures.1 in
    rw (p.1, p.2) (search (ones, c.in_err-one.was))

pub returns : goal.returns
returns c = search (ones, c.in_ok-one.was)
