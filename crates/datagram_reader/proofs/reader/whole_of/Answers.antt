-- `datagram_reader::whole_of` meets its contract: the loop's invariant: what is left to read, put behind what was read, is the
-- whole. Assumes nothing.
use Rattle.std.proofs.Common.{rules}
use Rattle.std.proofs.lemmas.Result.{err_from_is_err_and}
use native.Mathlib.Omega.{arith}
use Rattle.datagram_reader.proofs.ReadSteps.{item-ends}
use Rattle.datagram_reader.proofs.ReadTurn.{turns}
use Rattle.datagram_reader.proofs.ReadWhole.{wholes, whole-refused}
use Rattle.datagram_reader.proofs.reader.whole_of.Goals as goal

pub loop-i-init : goal.loop-i-init
loop-i-init c = search turns

pub returns-in_err-part : goal.returns-in_err-part
returns-in_err-part c =
    let p = err_from_is_err_and c.from_residual.result c.from_residual.ensures.1 in
    rw (p.1, p.2)
    (whole-refused c.loop-i.invariant c.least-low.ensures c.most-high.ensures (search rules) c.item_at.ensures c.in_err-part.was)

pub overflow_add-at : goal.overflow_add-at
overflow_add-at c = omega (arith, item-ends c.item_at.ensures c.in_ok-part.was (search rules))

pub loop-i-preserved : goal.loop-i-preserved
loop-i-preserved c = search (rules, turns)

pub returns-then-at-octets : goal.returns-then-at-octets
returns-then-at-octets c = search (rules, wholes)

pub returns : goal.returns
returns c = search (rules, wholes)
