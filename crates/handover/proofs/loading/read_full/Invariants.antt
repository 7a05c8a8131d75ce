-- `handover::loading::read_full` is safe and ends. What was read is within the text, which keeps its length; the room left is the measure.
-- Assumes nothing.
use Rattle.std.proofs.Common.{◌≡◌, ◌-◌, ◌≤◌, length}
use Rattle.handover.proofs.loading.read_full.Given as goal

abbrev pub invariant-loop-size : goal.invariant-loop-size
invariant-loop-size g l = (l.size ≤ length l.text) × (length l.text ≡ length l.initial.text)

abbrev pub decreases-loop-size : goal.decreases-loop-size
decreases-loop-size g l = length l.text - l.size
