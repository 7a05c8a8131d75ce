-- `packet_reader::read_count` meets its contract. Each answer is a law of `ReadItems`. Assumes nothing.
use Rattle.packet_reader.proofs.ReadItems.{counts}
use Rattle.packet_reader.proofs.items.read_count.Goals as goal

pub returns-then-not-present : goal.returns-then-not-present
returns-then-not-present c = search counts

pub further-requires : goal.further-requires
further-requires c = search counts

pub returns-in_default : goal.returns-in_default
returns-in_default c = search counts

pub overflow_add-result : goal.overflow_add-result
overflow_add-result c = search counts

pub overflow_mul-result-2 : goal.overflow_mul-result-2
overflow_mul-result-2 c = search counts

pub returns : goal.returns
returns c = search counts
