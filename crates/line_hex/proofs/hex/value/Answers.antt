-- `line_hex::value` meets its contract: the value of a digit, computed for each octet. Assumes nothing.
use Rattle.line_hex.proofs.Digits.{digit_value}
use Rattle.std.proofs.Common.{rules}
use Rattle.line_hex.proofs.hex.value.Goals as goal

pub returns : goal.returns
returns c = search (digit_value, rules)
