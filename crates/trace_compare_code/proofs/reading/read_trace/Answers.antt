-- `trace_compare_code::read_trace` meets its contract. The invariant: what is kept, and what is still to be read, are the whole trace.
-- Assumes nothing.
use Rattle.std.proofs.Common.{rules}
use mathlib.Core.Path.{refl}
use native.Mathlib.Omega.{arith}
use Rattle.trace_compare_code.proofs.Turning.{read-start, turn-room, turn_on, turn-refused, read_all}
use Rattle.trace_compare_code.proofs.reading.read_trace.Goals as goal

pub loop-at-init : goal.loop-at-init
loop-at-init c = (read-start _ _ _ _ c.requires, refl, refl)

pub keep_line-requires : goal.keep_line-requires
keep_line-requires c = turn-room c.loop-at.invariant.0 c.line_at-here.ensures

pub returns-in-Err : goal.returns-in-Err
returns-in-Err c = turn-refused c.loop-at.invariant.0 c.line_at-here.ensures c.keep_line.ensures c.in-Err.is

pub overflow_add-line : goal.overflow_add-line
overflow_add-line c =
    let u = c.loop-at.invariant.0 in
    record { fits = omega (arith, u.line, u.lines.few, u.lines.inside, c.well_formed.1.0) }

pub loop-at-smaller : goal.loop-at-smaller
loop-at-smaller c = omega (arith, c.line_at-here.ensures.on, c.line_at-here.ensures.inside)

pub loop-at-preserved : goal.loop-at-preserved
loop-at-preserved c =
    let now = turn_on c.loop-at.invariant.0 c.line_at-here.ensures c.keep_line.ensures c.in-Ok.is in
    (now, search rules, search rules)

pub returns : goal.returns
returns c = read_all c.loop-at.invariant.0 c.loop-at-test.false
