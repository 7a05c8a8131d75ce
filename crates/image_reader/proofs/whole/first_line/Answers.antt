-- `image_reader::first_line` meets its contract: what is taken from the text, and what it is, give each answer. Assumes nothing.
use Rattle.std.proofs.Common.{rules}
use Rattle.image_reader.proofs.Fronts.{first-none, firstlines}
use Rattle.image_reader.proofs.whole.first_line.Goals as goal

pub returns-in_err-count : goal.returns-in_err-count
returns-in_err-count c = first-none c.take_line.ensures c.in_err-count.was (search rules) (search rules)

pub returns : goal.returns
returns c = search (firstlines, rules)
