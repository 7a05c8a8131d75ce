-- `line_hex::pair_up` meets its contract: the octets so far stand at the front, sixteen more each turn. Then the last sixteen
-- are made, some of them perhaps again. Assumes nothing.
use Rattle.std.proofs.Common.{◌-◌}
use Rattle.line_hex.proofs.NearSteps.{Pairing}
use Rattle.line_hex.proofs.hex.pair_up.Given as goal

abbrev pub invariant-loop-i : goal.invariant-loop-i
invariant-loop-i l = Pairing l.line l.initial.out l.out l.i

abbrev pub decreases-loop-i : goal.decreases-loop-i
decreases-loop-i l = l.n - l.i
