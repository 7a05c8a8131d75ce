-- `image_reader::read_lines` meets its contract. The loop's invariant: what is left to read, put behind what was read, is the whole, and
-- what was read is laid. Assumes nothing.
use Rattle.image_reader.proofs.Turning.{Reading}
use Rattle.image_reader.proofs.whole.read_lines.Given as goal

abbrev pub invariant-loop-k : goal.invariant-loop-k
invariant-loop-k l = Reading l.limit l.ahead l.base l.text l.from l.initial.table l.initial.octets l.initial.messages l.table l.octets l.messages l.line l.at l.k
