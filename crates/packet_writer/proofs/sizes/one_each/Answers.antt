-- `packet_writer::one_each` meets its contract. Each answer is a law of `Measure`. Assumes nothing.
use Rattle.std.proofs.Common.{rules}
use Rattle.packet_writer.proofs.Measure.{decided}
use Rattle.packet_writer.proofs.sizes.one_each.Goals as goal

pub returns-then-types-lengths : goal.returns-then-types-lengths
returns-then-types-lengths c = search (rules, decided)

pub returns-else-types-lengths : goal.returns-else-types-lengths
returns-else-types-lengths c = search (rules, decided)
