-- `packet_reader::read_fields` meets its contract. The loop's invariant: the fields that are left, read from the
-- place that was reached, come after those that were read. Assumes nothing.
use Rattle.std.proofs.lemmas.Result.{err_from_is_err_and}
use Rattle.packet_reader.proofs.FieldsTurn.{goings}
use Rattle.packet_reader.proofs.reader.read_fields.Goals as goal

pub returns-in_err-field : goal.returns-in_err-field
returns-in_err-field c =
    let p = err_from_is_err_and c.from_residual.result c.from_residual.ensures.1 in
    rw (p.1, p.2) (search (goings, c.in_err-field.was))

pub loop-i-preserved : goal.loop-i-preserved
loop-i-preserved c = search (goings, c.in_ok-field.was)

pub returns : goal.returns
returns c = search goings
