-- `packet_pencil::bits::bits` meets its contract. Each answer is a law of `Taking`. Assumes nothing.
use Rattle.std.proofs.lemmas.Result.{err_from_is_err_and}
use Rattle.packet_pencil.proofs.Taking.{takings}
use Rattle.packet_pencil.proofs.bits.bits.Goals as goal

pub returns-in_err-one : goal.returns-in_err-one
returns-in_err-one c =
    let p = err_from_is_err_and c.from_residual.result c.from_residual.ensures.1 in
    rw (p.1, p.2) (search (takings, c.in_err-one.was))

pub overflow_add-value : goal.overflow_add-value
overflow_add-value c = search (takings, c.in_ok-one.was)

pub loop-preserved : goal.loop-preserved
loop-preserved c = search (takings, c.in_ok-one.was)

pub returns : goal.returns
returns c = search takings
