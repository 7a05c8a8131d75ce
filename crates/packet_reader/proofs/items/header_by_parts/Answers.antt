-- `packet_reader::header_by_parts` meets its contract. Each answer is a law of `ReadHeads`. Assumes nothing.
use Rattle.std.proofs.lemmas.Result.{err_from_is_err_and}
use Rattle.packet_reader.proofs.ReadHeads.{headers}
use Rattle.packet_reader.proofs.items.header_by_parts.Goals as goal

pub returns-in_err-kind : goal.returns-in_err-kind
returns-in_err-kind c =
    let p = err_from_is_err_and c.from_residual.result c.from_residual.ensures.1 in
    rw (p.1, p.2) (search (headers, c.in_err-kind.was))

pub returns : goal.returns
returns c = search (headers, c.in_ok-kind.was)
