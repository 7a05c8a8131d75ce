-- `sender_history::in_ranges` meets its contract. The loop's invariant: the places before this one are in range. Assumes nothing.
use Rattle.std.proofs.Common.{◌≡◌}
use Rattle.session_slots.specs.Store.{mask}
use Rattle.sender_history.proofs.RangeSteps.{Ranging}
use Rattle.sender_history.proofs.slots.in_ranges.Given as goal

abbrev pub invariant-loop-p : goal.invariant-loop-p
invariant-loop-p l = (Ranging l.sent l.sizes l.octets l.p) × (l.table ≡ mask)
