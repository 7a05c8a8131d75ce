-- `image_reader::is_upper` meets its contract: the test of a character, computed for each octet. Assumes nothing.
use Rattle.image_reader.proofs.Digits.{upper-told}
use Rattle.std.proofs.Common.{rules}
use Rattle.image_reader.proofs.text.is_upper.Goals as goal

pub returns : goal.returns
returns c = search (upper-told, rules)
