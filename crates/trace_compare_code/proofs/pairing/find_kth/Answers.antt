-- `trace_compare_code::find_kth` meets its contract. The invariant: how many of its like are still to pass from j on. Assumes nothing.
use Rattle.std.proofs.Common.{◌≡◌, length, arith}
use Rattle.trace_compare_code.proofs.Often.{seeking-start, seeking-hit, seeking-miss, seeking-found, seeking-end}
use Rattle.trace_compare_code.proofs.pairing.find_kth.Goals as goal
use Rattle.trace_compare_code.proofs.pairing.find_kth.Goals.{then-here-number+else-left-eq0, else-here-number}

pub loop-j-init : goal.loop-j-init
loop-j-init c = seeking-start _ _ _

pub returns-then-left-eq0 : goal.returns-then-left-eq0
returns-then-left-eq0 c = seeking-found c.loop-j.invariant c.loop-j-test.true c.if-here-number.true c.if-left-eq0.true

pub loop-j-preserved : goal.loop-j-preserved
loop-j-preserved c =
    elim c.if-here-number.branch [
      | then-here-number+else-left-eq0 w ↦ rw w.left-is (seeking-hit c.loop-j.invariant c.loop-j-test.true w.if-here-number.true w.if-left-eq0.false)
      | else-here-number w ↦ rw w.left-is (seeking-miss c.loop-j.invariant c.loop-j-test.true w.if-here-number.false)
    ]

pub returns : goal.returns
returns c =
    let all : c.loop-j.j ≡ length c.args.numbers.now = omega (arith, c.loop-j.invariant.inside, c.loop-j-test.false) in
    rw all at (seeking-end c.loop-j.invariant c.loop-j-test.false)
