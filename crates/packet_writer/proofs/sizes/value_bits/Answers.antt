-- `packet_writer::value_bits` meets its contract. Each answer is a law of `Values`. Assumes nothing.
use Rattle.std.proofs.Common.{rules}
use Rattle.packet_writer.proofs.Values.{widths}
use Rattle.packet_writer.proofs.sizes.value_bits.Goals as goal

pub returns-then-known-number : goal.returns-then-known-number
returns-then-known-number c = search (rules, widths)

pub returns-else-known-number : goal.returns-else-known-number
returns-else-known-number c = search (rules, widths)
