-- `program_loop::serve` meets its contract: between two blocks the program is within its ranges, all that was read is taken in and its text
-- handed over; the end of the input comes last. Assumes nothing.
use Rattle.std.proofs.Common.{◌∙◌, refl, arith, rules}
use Rattle.line.specs.Feed.{kept_limit}
use Rattle.line.proofs.Laws.{line-fresh}
use Rattle.program_loop.proofs.Turning.{turning-start, so-far-none, so-far-same, written_all, turning-on, complete, serves, serves-not}
use Rattle.program_loop.proofs.serve.Goals as goal
use Rattle.program_loop.proofs.serve.Goals.{else-loop-test, then-loop-test+then-n-eq0}

pub loop-init : goal.loop-init
loop-init g c = turning-start c.requires (line-fresh kept_limit refl) (search rules) (search rules)

pub returns-then-not-passed : goal.returns-then-not-passed
returns-then-not-passed g c = serves-not (search rules)

pub loop-preserved : goal.loop-preserved
loop-preserved g c =
    turning-on c.loop.invariant _ c.read_on-n.ensures.upper_bound c.pass-passed.ensures (written_all _ c.if-not-passed.false)
    c.read_on-n.ensures.taken_after (search rules) (search rules)

pub hand_over-whole-requires : goal.hand_over-whole-requires
hand_over-whole-requires g c =
    let last = c.finish-ended.ensures in
    omega (arith, last.fits, last.long)

pub returns : goal.returns
returns g c =
    elim c.loop-test.branch [
      | else-loop-test w ↦
          serves _ (complete (so-far-same c.loop.invariant.so_far w.taken-is) c.finish-ended.ensures c.hand_over-whole.ensures)
          c.finish-ended.ensures.within
      | then-loop-test+then-n-eq0 w ↦
          serves _
          (complete (so-far-none c.loop.invariant.so_far w.if-n-eq0.true (w.taken-is ∙ w.read_on-n.ensures.taken_after)) c.finish-ended.ensures
          c.hand_over-whole.ensures)
          c.finish-ended.ensures.within
    ]
