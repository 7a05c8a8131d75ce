-- `image_reader::read_lines` meets its contract. The loop's invariant: what is left to read, put behind what was read, is the whole, and
-- what was read is laid. Assumes nothing.
use Rattle.std.proofs.Common.{arith, rules}
use Rattle.image_reader.proofs.Turning.{reading-none, reading-ends, reading-turn, reading-done}
use Rattle.image_reader.proofs.whole.read_lines.Goals as goal

pub returns-in_err-taken : goal.returns-in_err-taken
returns-in_err-taken c = reading-none c.loop-k.invariant (omega arith) c.read_line.ensures c.in_err-taken.was (search rules)

pub overflow_add-at : goal.overflow_add-at
overflow_add-at c = omega (arith, reading-ends c.loop-k.invariant (omega arith) c.read_line.ensures c.in_ok-taken.was)

pub loop-k-preserved : goal.loop-k-preserved
loop-k-preserved c =
    reading-turn c.loop-k.invariant (omega arith) c.read_line.ensures c.in_ok-taken.was c.read_line.auto.line

pub returns : goal.returns
returns c = reading-done c.loop-k.invariant (omega arith)
