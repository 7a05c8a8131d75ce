-- `line_hex::put_digits` meets its contract: the octets so far are written, two digits more each turn. Assumes nothing.
use Rattle.std.proofs.Common.{◌-◌, arith, length-set, rules}
use Rattle.line_hex.proofs.HexSteps.{hexed-start, hexed-turn, hexed-done}
use Rattle.line_hex.proofs.hex.put_digits.Goals as goal

pub loop-i-init : goal.loop-i-init
loop-i-init c = search hexed-start

pub digit_for-requires : goal.digit_for-requires
digit_for-requires c = omega (arith, c.type_inv.octets c.loop-i.i)

pub bounds-out-place-in-loop-i : goal.bounds-out-place-in-loop-i
bounds-out-place-in-loop-i c = simp length-set (omega arith)

pub loop-i-preserved : goal.loop-i-preserved
loop-i-preserved c = search (hexed-turn, rules)

pub returns : goal.returns
returns c = search hexed-done
