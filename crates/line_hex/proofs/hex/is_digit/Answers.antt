-- `line_hex::is_digit` meets its contract: the test of a character, computed for each octet. Assumes nothing.
use Rattle.line_hex.proofs.Digits.{digit-told}
use Rattle.std.proofs.Common.{rules}
use Rattle.line_hex.proofs.hex.is_digit.Goals as goal

pub returns : goal.returns
returns c = search (digit-told, rules)
