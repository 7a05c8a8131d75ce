-- `packet_reader::read_value` meets its contract. Each answer is a law of `ReadValues`. Assumes nothing.
use Rattle.packet_reader.proofs.ReadValues.{values}
use Rattle.packet_reader.proofs.values.read_value.Goals as goal

pub returns-then-not-e : goal.returns-then-not-e
returns-then-not-e c = search values

pub returns-then-bit : goal.returns-then-bit
returns-then-bit c = search values

pub returns-else-bit : goal.returns-else-bit
returns-else-bit c = search values
