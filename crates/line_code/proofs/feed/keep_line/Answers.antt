-- `line_code::keep_line` meets its contract: as many characters as fit are copied behind those that are kept. Assumes nothing.
use Rattle.std.proofs.Common.{arith}
use Rattle.line_code.proofs.FeedSteps.{keeping-done}
use Rattle.line_code.proofs.feed.keep_line.Goals as goal

pub returns : goal.returns
returns c = keeping-done c.copy_from_slice.ensures.after (omega arith) c.min-count.ensures c.requires
