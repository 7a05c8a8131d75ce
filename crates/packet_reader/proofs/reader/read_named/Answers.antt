-- `packet_reader::read_named` meets its contract. Each answer is a law of `ReadPacket`, from the answers of the items' readers.
-- Assumes nothing.
use Rattle.std.proofs.lemmas.Result.{err_from_is_err_and}
use Rattle.packet_reader.proofs.ReadPacket.{packets}
use Rattle.packet_reader.proofs.reader.read_named.Goals as goal

pub returns-then-octets-gt-LIMIT : goal.returns-then-octets-gt-LIMIT
returns-then-octets-gt-LIMIT c = search packets

pub returns-in_err-first : goal.returns-in_err-first
returns-in_err-first c =
    let p = err_from_is_err_and c.from_residual.result c.from_residual.ensures.1 in
    rw (p.1, p.2) (search (packets, c.in_err-first.was))

pub read_count-requires : goal.read_count-requires
read_count-requires c = search (packets, c.in_ok-first.was)

pub returns-in_err-count : goal.returns-in_err-count
returns-in_err-count c =
    let p = err_from_is_err_and c.from_residual-in_err-count.result c.from_residual-in_err-count.ensures.1 in
    rw (p.1, p.2) (search (packets, c.in_ok-first.was, c.in_err-count.was))

pub read_fields-requires-clause-count_le_fields_limit : goal.read_fields-requires-clause-count_le_fields_limit
read_fields-requires-clause-count_le_fields_limit c = search (packets, c.in_ok-first.was, c.in_ok-count.was)

pub read_fields-requires-clause-in_packet : goal.read_fields-requires-clause-in_packet
read_fields-requires-clause-in_packet c = search (packets, c.in_ok-first.was, c.in_ok-count.was)

pub returns-in_err-all : goal.returns-in_err-all
returns-in_err-all c =
    let p = err_from_is_err_and c.from_residual-in_err-all.result c.from_residual-in_err-all.ensures.1 in
    rw (p.1, p.2) (search (packets, c.in_ok-first.was, c.in_ok-count.was, c.in_err-all.was))

pub read_end-requires : goal.read_end-requires
read_end-requires c = search (packets, c.in_ok-first.was, c.in_ok-count.was, c.in_ok-all.was)

pub returns-in_err-read_end : goal.returns-in_err-read_end
returns-in_err-read_end c =
    let p = err_from_is_err_and c.from_residual-in_err-read_end.result c.from_residual-in_err-read_end.ensures.1 in
    rw (p.1, p.2) (search (packets, c.in_ok-first.was, c.in_ok-count.was, c.in_ok-all.was, c.in_err-read_end.was))

pub returns : goal.returns
returns c = search (packets, c.in_ok-first.was, c.in_ok-count.was, c.in_ok-all.was, c.in_ok-read_end.was)
