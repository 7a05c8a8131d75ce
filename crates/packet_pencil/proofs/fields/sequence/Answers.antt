-- `packet_pencil::fields::sequence` meets its contract. Each answer is a law of `FieldsTurn`. Assumes nothing.
use Rattle.std.proofs.lemmas.Result.{err_from_is_err_and}
use Rattle.packet_pencil.proofs.FieldsTurn.{goings}
use Rattle.packet_pencil.proofs.fields.sequence.Goals as goal

pub returns-in_err-one : goal.returns-in_err-one
returns-in_err-one c =
    let p = err_from_is_err_and c.from_residual.result c.from_residual.ensures.1 in
    rw (p.1, p.2) (search (goings, c.in_err-one.was))

pub loop-i-preserved : goal.loop-i-preserved
loop-i-preserved c = search (goings, c.in_ok-one.was)

pub returns : goal.returns
returns c = search goings
