-- `packet_rules::types` meets its contract: each arm is one of the editions. Assumes nothing.
use Rattle.packet_rules.proofs.types.Goals as goal

pub returns-in-Old : goal.returns-in-Old
returns-in-Old c = rw c.in-Old.is

pub returns-in-New : goal.returns-in-New
returns-in-New c = rw c.in-New.is
