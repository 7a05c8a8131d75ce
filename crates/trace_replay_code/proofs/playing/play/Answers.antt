-- `trace_replay_code::playing::play` meets its contract. The invariant: the text so far, and what is still to come of the rest of the
-- trace, are the whole replay. The measure is what is left of the trace. Assumes nothing.
use native.Mathlib.Omega.{arith}
use Rattle.trace_replay_code.proofs.Loop.{playing-start, playing-long, playing-able, line-inside, line-long, line-room}
use Rattle.trace_replay_code.proofs.Loop.{playing-turn, playing-full, playing-done}
use Rattle.trace_replay_code.proofs.playing.play.Goals as goal

pub loop-at-init : goal.loop-at-init
loop-at-init c = playing-start _ _ _ _ _ _ c.requires.in_ranges (omega arith)

pub take_line-taken-requires : goal.take_line-taken-requires
take_line-taken-requires c = record { able = playing-able c.loop-at.invariant; at_in_bounds = c.loop-at-test.true }

pub overflow_sub-out : goal.overflow_sub-out
overflow_sub-out c = omega (arith, playing-long c.loop-at.invariant, c.loop-at.invariant.fits)

pub shape_of-out-then-out-end : goal.shape_of-out-then-out-end
shape_of-out-then-out-end c = playing-long c.loop-at.invariant

pub returns-then-out-end : goal.returns-then-out-end
returns-then-out-end c = playing-full c.loop-at.invariant c.take_line-taken.ensures c.requires.g_value c.if-out-end.true c.new.ensures

pub slice_bounds-text-end : goal.slice_bounds-text-end
slice_bounds-text-end c = line-inside c.loop-at.invariant c.take_line-taken.ensures

pub slice_bounds-lay-end : goal.slice_bounds-lay-end
slice_bounds-lay-end c = line-long c.loop-at.invariant c.take_line-taken.ensures

pub lay-end-requires : goal.lay-end-requires
lay-end-requires c = line-room c.loop-at.invariant c.take_line-taken.ensures c.if-out-end.false

pub loop-at-smaller : goal.loop-at-smaller
loop-at-smaller c = omega (arith, c.take_line-taken.ensures.some, c.take_line-taken.ensures.inside)

pub loop-at-preserved : goal.loop-at-preserved
loop-at-preserved c = playing-turn c.loop-at.invariant c.take_line-taken.ensures c.if-out-end.false c.lay-end.ensures

pub shape_of-out : goal.shape_of-out
shape_of-out c = playing-long c.loop-at.invariant

pub returns : goal.returns
returns c = playing-done c.loop-at.invariant c.requires.g_value c.loop-at-test.false
