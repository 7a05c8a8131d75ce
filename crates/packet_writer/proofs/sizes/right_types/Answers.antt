-- `packet_writer::right_types` meets its contract. The loop's invariant: what is left of types and lengths decides. Assumes nothing.
use Rattle.packet_writer.proofs.Measure.{decided}
use Rattle.packet_writer.proofs.sizes.right_types.Goals as goal

pub returns-then-not-right_data : goal.returns-then-not-right_data
returns-then-not-right_data c = search decided

pub loop-i-preserved : goal.loop-i-preserved
loop-i-preserved c = search decided

pub returns : goal.returns
returns c = search decided
