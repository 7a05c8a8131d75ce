-- `packet_pencil::fields::data_field` meets its contract. Each answer is a law of `FieldsTurn`. Assumes nothing.
use Rattle.std.proofs.lemmas.Result.{err_from_is_err_and}
use Rattle.packet_pencil.proofs.FieldsTurn.{counted}
use Rattle.packet_pencil.proofs.fields.data_field.Goals as goal

pub returns-in_err-n : goal.returns-in_err-n
returns-in_err-n c =
    let p = err_from_is_err_and c.from_residual.result c.from_residual.ensures.1 in
    rw (p.1, p.2) (search (counted, c.in_err-n.was))

pub sequence-requires : goal.sequence-requires
sequence-requires c = search (counted, c.in_ok-n.was)

pub returns : goal.returns
returns c = search (counted, c.in_ok-n.was)
