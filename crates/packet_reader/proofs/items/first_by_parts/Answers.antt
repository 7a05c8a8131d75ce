-- `packet_reader::first_by_parts` meets its contract. Each answer is a law of `ReadHeads`. Assumes nothing.
use Rattle.std.proofs.lemmas.Result.{err_from_is_err_and}
use Rattle.packet_reader.proofs.ReadHeads.{firsts}
use Rattle.packet_reader.proofs.items.first_by_parts.Goals as goal

pub returns-in_err-value : goal.returns-in_err-value
returns-in_err-value c =
    let p = err_from_is_err_and c.from_residual.result c.from_residual.ensures.1 in
    rw (p.1, p.2) (search (firsts, c.in_err-value.was))

pub after_first-requires : goal.after_first-requires
after_first-requires c = search (firsts, c.in_ok-value.was)

pub returns : goal.returns
returns c = search (firsts, c.in_ok-value.was)
