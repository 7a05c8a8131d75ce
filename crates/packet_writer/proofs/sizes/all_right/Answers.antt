-- `packet_writer::all_right` meets its contract. Each answer is a law of `Measure`. Assumes nothing.
use Rattle.std.proofs.Common.{rules}
use Rattle.packet_writer.proofs.Measure.{decided}
use Rattle.packet_writer.proofs.sizes.all_right.Goals as goal

pub returns-then-right_fields : goal.returns-then-right_fields
returns-then-right_fields c = search (rules, decided)

pub returns-else-right_fields : goal.returns-else-right_fields
returns-else-right_fields c = search (rules, decided)
