-- `line_code::releases` meets its contract: what was written so far, then as many turns as are left, is the whole. Assumes nothing.
use Rattle.std.proofs.Common.{◌-◌}
use Rattle.session_held.specs.Table.{lent, view_in}
use Rattle.line_code.specs.Turns as spec
use Rattle.line_code.proofs.ReleaseLoop.{Left}
use Rattle.line_code.proofs.releasing.releases.Given as goal

abbrev pub invariant-loop-i : goal.invariant-loop-i
invariant-loop-i l = Left (spec.turns l.turns (view_in (lent l.initial.now l.initial.moves l.initial.table l.initial.octets l.initial.messages))) l.initial.out l.at (lent l.now l.moves l.table l.octets l.messages) l.out l.end (l.turns - l.i)
