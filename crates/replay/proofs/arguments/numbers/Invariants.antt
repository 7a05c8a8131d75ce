-- `replay::arguments::numbers` is safe and ends: there are no more numbers than places. Assumes nothing.
use Rattle.std.proofs.Common.{◌≡◌, ◌≤◌, length}
use Rattle.replay.proofs.arguments.numbers.Given as goal

abbrev pub invariant-loop-at : goal.invariant-loop-at
invariant-loop-at l = (l.count ≤ 65536) × (length l.out ≡ 65536)
