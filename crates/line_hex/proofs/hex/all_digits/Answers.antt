-- `line_hex::all_digits` meets its contract: the characters so far are told, one more each turn. Assumes nothing.
use Rattle.std.proofs.Common.{◌-◌, rules}
use Rattle.line_hex.proofs.HexSteps.{told-start, told-turn, told-done}
use Rattle.line_hex.proofs.hex.all_digits.Goals as goal

pub loop-c-init : goal.loop-c-init
loop-c-init c = search told-start

pub loop-c-preserved : goal.loop-c-preserved
loop-c-preserved c = search (told-turn, rules)

pub returns : goal.returns
returns c = search told-done
