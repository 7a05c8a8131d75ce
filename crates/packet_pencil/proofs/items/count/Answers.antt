-- `packet_pencil::items::count` meets its contract. Each answer is a law of `ReadSizes`. Assumes nothing.
use Rattle.std.proofs.lemmas.Result.{err_from_is_err_and}
use Rattle.packet_pencil.proofs.ReadSizes.{count-edge, count-refused, count_low, count-high, count-found}
use Rattle.packet_pencil.proofs.items.count.Goals as goal

pub returns-in_err-edge : goal.returns-in_err-edge
returns-in_err-edge c =
    let p = err_from_is_err_and c.from_residual.result c.from_residual.ensures.1 in
    rw (p.1, p.2) (count-edge c.align.ensures c.in_err-edge.was)

pub returns-in_err-value : goal.returns-in_err-value
returns-in_err-value c =
    let p = err_from_is_err_and c.from_residual-in_err-value.result c.from_residual-in_err-value.ensures.1 in
    rw (p.1, p.2) (count-refused c.align.ensures (λ k. (c.type_inv.octets k).fits) c.in_ok-edge.was c.counting.ensures c.in_err-value.was)

pub returns-then-value-lt-LEAST : goal.returns-then-value-lt-LEAST
returns-then-value-lt-LEAST c =
    count_low c.align.ensures (λ k. (c.type_inv.octets k).fits) c.in_ok-edge.was c.counting.ensures c.in_ok-value.was c.if-value-lt-LEAST.true c.at.ensures

pub returns-then-value-gt-LIMIT : goal.returns-then-value-gt-LIMIT
returns-then-value-gt-LIMIT c =
    count-high c.align.ensures (λ k. (c.type_inv.octets k).fits) c.in_ok-edge.was c.counting.ensures c.in_ok-value.was c.if-value-lt-LEAST.false
    c.if-value-gt-LIMIT.true c.at-then-value-gt-LIMIT.ensures

pub returns : goal.returns
returns c =
    count-found c.align.ensures (λ k. (c.type_inv.octets k).fits) c.in_ok-edge.was c.counting.ensures c.in_ok-value.was c.if-value-lt-LEAST.false
    c.if-value-gt-LIMIT.false
