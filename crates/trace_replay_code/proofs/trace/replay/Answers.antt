-- `trace_replay_code::replay` meets its contract: in the front of the lent buffer, and in all of it if that is too short. Assumes nothing.
use mathlib.Core.Path.{sym}
use native.Mathlib.Omega.{arith}
use Rattle.trace_replay_code.specs.Inner.{kept_aside}
use Rattle.trace_replay_code.proofs.Whole.{front_long, front-done, front-full}
use Rattle.trace_replay_code.proofs.trace.replay.Goals as goal

pub slice_bounds-play_aside-end-2 : goal.slice_bounds-play_aside-end-2
slice_bounds-play_aside-end-2 c = sym (front_long kept_aside c.args.out.now c.if-out-le-KEPT.false)

pub play_aside-first-requires : goal.play_aside-first-requires
play_aside-first-requires c = omega (arith, front_long kept_aside c.args.out.now c.if-out-le-KEPT.false)

pub returns-in-Ok : goal.returns-in-Ok
returns-in-Ok c = front-done kept_aside _ c.if-out-le-KEPT.false c.play_aside-first.ensures c.in-Ok.is

pub returns-in-Err : goal.returns-in-Err
returns-in-Err c =
    front-full kept_aside _ c.if-out-le-KEPT.false c.play_aside-first.ensures c.in-Err.is
    c.play_measured.ensures
