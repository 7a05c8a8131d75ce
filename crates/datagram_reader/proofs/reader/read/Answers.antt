-- `datagram_reader::read` meets its contract: each test or piece in reading order gives its answer. Assumes nothing.
use Rattle.std.proofs.Common.{rules}
use Rattle.std.proofs.lemmas.Result.{err_from_is_err_and}
use native.Mathlib.Omega.{arith}
use Rattle.datagram_reader.proofs.ReadSteps.{item-ends}
use Rattle.datagram_reader.proofs.ReadWhole.{readings, extra-asked, read-no-packet, read-no-extra, read_whole}
use Rattle.datagram_reader.proofs.reader.read.Goals as goal

pub returns-then-octets-gt-LIMIT : goal.returns-then-octets-gt-LIMIT
returns-then-octets-gt-LIMIT c = search readings

pub returns-then-octets-lt2 : goal.returns-then-octets-lt2
returns-then-octets-lt2 c = search readings

pub returns-in_err-packet : goal.returns-in_err-packet
returns-in_err-packet c =
    let p = err_from_is_err_and c.from_residual.result c.from_residual.ensures.1 in
    rw (p.1, p.2) (read-no-packet (search rules) (search rules) c.item_at.ensures c.in_err-packet.was)

pub overflow_add-packet : goal.overflow_add-packet
overflow_add-packet c = omega (arith, item-ends c.item_at.ensures c.in_ok-packet.was (search rules))

pub returns-in_err-extra : goal.returns-in_err-extra
returns-in_err-extra c =
    let p = err_from_is_err_and c.from_residual-in_err-extra.result c.from_residual-in_err-extra.ensures.1 in
    rw (p.1, p.2)
    (read-no-extra (search rules) (search rules) c.item_at.ensures c.in_ok-packet.was c.extra_at.ensures c.in_err-extra.was)

pub whole_of-requires : goal.whole_of-requires
whole_of-requires c = extra-asked c.extra_at.ensures c.in_ok-extra.was

pub returns : goal.returns
returns c =
    read_whole (search rules) (search rules) c.item_at.ensures c.in_ok-packet.was c.extra_at.ensures c.number_of-number.ensures
    c.in_ok-extra.was c.whole_of.ensures
