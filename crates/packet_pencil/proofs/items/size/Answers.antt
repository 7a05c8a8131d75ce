-- `packet_pencil::items::size` meets its contract. Each answer is a law of `ReadData`. Assumes nothing.
use Rattle.std.proofs.lemmas.Result.{err_from_is_err_and}
use Rattle.packet_pencil.proofs.ReadData.{size-edge, size-refused, size-over, size-found}
use Rattle.packet_pencil.proofs.items.size.Goals as goal

pub returns-in_err-edge : goal.returns-in_err-edge
returns-in_err-edge c =
    let p = err_from_is_err_and c.from_residual.result c.from_residual.ensures.1 in
    rw (p.1, p.2) (size-edge c.align.ensures c.in_err-edge.was)

pub returns-in_err-less_one : goal.returns-in_err-less_one
returns-in_err-less_one c =
    let p = err_from_is_err_and c.from_residual-in_err-less_one.result c.from_residual-in_err-less_one.ensures.1 in
    rw (p.1, p.2) (size-refused c.align.ensures (λ k. (c.type_inv.octets k).fits) c.in_ok-edge.was c.bits.ensures c.in_err-less_one.was)

pub returns-then-less_one-ge-LIMIT : goal.returns-then-less_one-ge-LIMIT
returns-then-less_one-ge-LIMIT c =
    size-over c.align.ensures (λ k. (c.type_inv.octets k).fits) c.in_ok-edge.was c.bits.ensures c.in_ok-less_one.was c.if-less_one-ge-LIMIT.true c.at.ensures

pub returns-else-less_one-ge-LIMIT : goal.returns-else-less_one-ge-LIMIT
returns-else-less_one-ge-LIMIT c =
    size-found c.align.ensures (λ k. (c.type_inv.octets k).fits) c.in_ok-edge.was c.bits.ensures c.in_ok-less_one.was c.if-less_one-ge-LIMIT.false
