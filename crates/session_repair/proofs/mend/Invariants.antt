-- `session_repair::mend` meets its contract: what is left of the steps, done to what is there now, gives the whole. Assumes nothing.
use Rattle.std.proofs.Common.{◌-◌}
use Rattle.session.specs.Cells.{kept_numbers}
use Rattle.session_repair.proofs.Fills.{Mending}
use Rattle.session_repair.proofs.mend.Given as goal

abbrev pub invariant-loop : goal.invariant-loop
invariant-loop l = Mending l.note l.base l.messages l.initial.table l.initial.octets l.table l.octets (kept_numbers - l.counter)
