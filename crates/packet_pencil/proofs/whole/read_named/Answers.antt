-- `packet_pencil::whole::read_named` meets its contract. Each answer is a law of `ReadPacket`. Assumes nothing.
use Rattle.std.proofs.lemmas.Result.{err_from_is_err_and}
use Rattle.packet_pencil.proofs.ReadPacket.{packets}
use Rattle.packet_pencil.proofs.whole.read_named.Goals as goal

pub returns-then-octets-gt-LIMIT : goal.returns-then-octets-gt-LIMIT
returns-then-octets-gt-LIMIT c = search packets

pub returns-in_err-first : goal.returns-in_err-first
returns-in_err-first c =
    let p = err_from_is_err_and c.from_residual.result c.from_residual.ensures.1 in
    rw (p.1, p.2) (search (packets, c.in_err-first.was))

pub returns-in_err-all : goal.returns-in_err-all
returns-in_err-all c =
    let p = err_from_is_err_and c.from_residual-in_err-all.result c.from_residual-in_err-all.ensures.1 in
    rw (p.1, p.2) (search (packets, c.in_ok-first.was, c.in_err-all.was))

pub returns-in_err-edge : goal.returns-in_err-edge
returns-in_err-edge c =
    let p = err_from_is_err_and c.from_residual-in_err-edge.result c.from_residual-in_err-edge.ensures.1 in
    rw (p.1, p.2) (search (packets, c.in_ok-first.was, c.in_ok-all.was, c.in_err-edge.was))

pub returns-then-not-may_follow : goal.returns-then-not-may_follow
returns-then-not-may_follow c = search (packets, c.in_ok-first.was, c.in_ok-all.was, c.in_ok-edge.was)

pub returns : goal.returns
returns c = search (packets, c.in_ok-first.was, c.in_ok-all.was, c.in_ok-edge.was)
