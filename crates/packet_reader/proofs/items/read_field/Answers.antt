-- `packet_reader::read_field` meets its contract. Each answer is a law of `ReadFields`. Assumes nothing.
use Rattle.std.proofs.lemmas.Result.{err_from_is_err_and}
use Rattle.packet_reader.proofs.ReadFields.{fields}
use Rattle.packet_reader.proofs.items.read_field.Goals as goal

pub returns-in_err-header : goal.returns-in_err-header
returns-in_err-header c =
    let p = err_from_is_err_and c.from_residual.result c.from_residual.ensures.1 in
    rw (p.1, p.2) (search (fields, c.in_err-header.was))

pub read_data-requires : goal.read_data-requires
read_data-requires c = search (fields, c.in_ok-header.was)

pub returns-then-header : goal.returns-then-header
returns-then-header c = search (fields, c.in_ok-header.was)

pub returns : goal.returns
returns c = search (fields, c.in_ok-header.was)
