-- `packet_pencil::whole::type_of_msg` meets its contract. Each answer is a law of `ReadStart`. Assumes nothing.
use Rattle.std.proofs.lemmas.Result.{err_from_is_err_and}
use Rattle.packet_pencil.proofs.ReadStart.{types}
use Rattle.packet_pencil.proofs.whole.type_of_msg.Goals as goal

pub returns-in_err-present : goal.returns-in_err-present
returns-in_err-present c =
    let p = err_from_is_err_and c.from_residual.result c.from_residual.ensures.1 in
    rw (p.1, p.2) (search (types, c.in_err-present.was))

pub returns-in_err-is_data : goal.returns-in_err-is_data
returns-in_err-is_data c =
    let p = err_from_is_err_and c.from_residual-in_err-is_data.result c.from_residual-in_err-is_data.ensures.1 in
    rw (p.1, p.2) (search (types, c.in_ok-present.was, c.in_err-is_data.was))

pub returns : goal.returns
returns c = search (types, c.in_ok-present.was, c.in_ok-is_data.was)
