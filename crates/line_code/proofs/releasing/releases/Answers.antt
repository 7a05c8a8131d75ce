-- `line_code::releases` meets its contract: what was written so far, then as many turns as are left, is the whole. Assumes nothing.
use Rattle.std.proofs.Common.{arith}
use mathlib.Core.Path.{refl}
use borrow.Author.Tests.{not-true, not-false}
use Rattle.line_code.proofs.ReleaseLoop.{left-start, left-ready, left-done, left-unknown, left-turn, left-stop}
use Rattle.line_code.proofs.releasing.releases.Goals as goal

pub loop-i-init : goal.loop-i-init
loop-i-init c = left-start (omega arith) c.requires.turns_bound c.requires.able

pub returns-then-not-skip : goal.returns-then-not-skip
returns-then-not-skip c = left-unknown c.loop-i.invariant (omega arith) c.kept_slot-slot.ensures c.is_known-known.ensures c.if-not-known.true c.if-not-skip.true

pub release-turn-requires : goal.release-turn-requires
release-turn-requires c = left-ready c.loop-i.invariant (omega arith)

pub returns-then-not-turn : goal.returns-then-not-turn
returns-then-not-turn c = left-stop c.loop-i.invariant (omega arith) refl c.release-turn.ensures (not-true _ c.if-not-turn.true)

pub loop-i-preserved : goal.loop-i-preserved
loop-i-preserved c = left-turn c.loop-i.invariant (omega arith) refl c.release-turn.ensures (not-false _ c.if-not-turn.false) (omega arith)

pub returns-after-loop-i : goal.returns-after-loop-i
returns-after-loop-i c = left-done c.loop-i.invariant (omega (arith, c.loop-i-test.false))
