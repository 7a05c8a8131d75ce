-- `packet_writer::all_assigned` meets its contract. Each answer is a law of `Measure`. Assumes nothing.
use Rattle.packet_writer.proofs.Measure.{decided}
use Rattle.packet_writer.proofs.sizes.all_assigned.Goals as goal

pub returns-then-from-values : goal.returns-then-from-values
returns-then-from-values c = search decided

pub returns-else-from-values : goal.returns-else-from-values
returns-else-from-values c = search decided
