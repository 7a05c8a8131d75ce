-- `packet_reader::read_root` meets its contract. Each answer is a law of `ReadValues`: the tests that led there are those
-- of `root_at`, in its order. Assumes nothing.
use Rattle.packet_reader.proofs.ReadValues.{values}
use Rattle.packet_reader.proofs.values.read_root.Goals as goal

pub returns-then-all-next : goal.returns-then-all-next
returns-then-all-next c = search values

pub returns-then-value-e : goal.returns-then-value-e
returns-then-value-e c = search values

pub returns-else-value-e : goal.returns-else-value-e
returns-else-value-e c = search values
