-- `image_reader::read_line` meets its contract: what is taken from the text, what it is and where it is laid give each answer. Assumes
-- nothing.
use Rattle.std.proofs.Common.{rules}
use Rattle.image_reader.proofs.LineSteps.{line-none, line_other, line_read}
use Rattle.image_reader.proofs.whole.read_line.Goals as goal

pub returns-in_err-count : goal.returns-in_err-count
returns-in_err-count c =
    line-none c.take_line.ensures c.in_err-count.was c.requires.limit_le_packet_limit (search rules) (search rules)

pub returns-in_err-number : goal.returns-in_err-number
returns-in_err-number c = search (line_other, rules)

pub returns : goal.returns
returns c = search (line_read, rules)
