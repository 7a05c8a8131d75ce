-- `packet_pencil::whole::chosen` meets its contract. Each answer is a law of `ReadStart`. Assumes nothing.
use Rattle.std.proofs.lemmas.Result.{err_from_is_err_and}
use Rattle.packet_pencil.proofs.ReadStart.{choices}
use Rattle.packet_pencil.proofs.whole.chosen.Goals as goal

pub returns-in_err-value : goal.returns-in_err-value
returns-in_err-value c =
    let p = err_from_is_err_and c.from_residual.result c.from_residual.ensures.1 in
    rw (p.1, p.2) (search (choices, c.in_err-value.was))

pub returns-then-is_data : goal.returns-then-is_data
returns-then-is_data c = search (choices, c.in_ok-value.was)

pub returns-in_err-value-2 : goal.returns-in_err-value-2
returns-in_err-value-2 c =
    let p = err_from_is_err_and c.from_residual-in_err-value-2.result c.from_residual-in_err-value-2.ensures.1 in
    rw (p.1, p.2) (search (choices, c.in_err-value-2.was))

pub returns : goal.returns
returns c = search (choices, c.in_ok-value-2.was)
