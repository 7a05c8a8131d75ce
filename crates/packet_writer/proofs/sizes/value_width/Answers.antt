-- `packet_writer::value_width` meets its contract. Each answer is a law of `Values`. Assumes nothing.
use Rattle.std.proofs.Common.{rules}
use Rattle.packet_writer.proofs.Values.{widths}
use Rattle.packet_writer.proofs.sizes.value_width.Goals as goal

pub returns-then-known-from : goal.returns-then-known-from
returns-then-known-from c = search (rules, widths)

pub returns-then-known : goal.returns-then-known
returns-then-known c = search (rules, widths)

pub returns-else-known : goal.returns-else-known
returns-else-known c = search (rules, widths)
