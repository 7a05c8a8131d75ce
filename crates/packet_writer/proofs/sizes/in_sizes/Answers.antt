-- `packet_writer::in_sizes` meets its contract. Each answer is a law of `Sizing`. Assumes nothing.
use Rattle.std.proofs.Common.{rules}
use Rattle.packet_writer.proofs.Sizing.{sizings}
use Rattle.packet_writer.proofs.sizes.in_sizes.Goals as goal

pub returns-then-all_short : goal.returns-then-all_short
returns-then-all_short c = search (rules, sizings)

pub returns-else-all_short : goal.returns-else-all_short
returns-else-all_short c = search (rules, sizings)
