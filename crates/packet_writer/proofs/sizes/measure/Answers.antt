-- `packet_writer::measure` meets its contract. Each answer is a law of `Measure`: the tests that led there are those
-- of `packet_to_write`, in its order. Assumes nothing.
use Rattle.packet_writer.proofs.Measure.{measures}
use Rattle.packet_writer.proofs.sizes.measure.Goals as goal

pub returns-then-types-gt-LIMIT : goal.returns-then-types-gt-LIMIT
returns-then-types-gt-LIMIT c = search measures

pub returns-then-not-one_each : goal.returns-then-not-one_each
returns-then-not-one_each c = search measures

pub returns-then-not-all_assigned : goal.returns-then-not-all_assigned
returns-then-not-all_assigned c = search measures

pub all_right-requires : goal.all_right-requires
all_right-requires c = search measures

pub returns-then-not-all_right : goal.returns-then-not-all_right
returns-then-not-all_right c = search measures

pub packet_size-size-requires : goal.packet_size-size-requires
packet_size-size-requires c = search measures

pub returns-then-not-in_sizes : goal.returns-then-not-in_sizes
returns-then-not-in_sizes c = search measures

pub returns : goal.returns
returns c = search measures
