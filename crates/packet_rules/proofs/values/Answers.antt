-- `packet_rules::values` meets its contract: each arm is one of the editions and kinds. Assumes nothing.
use Rattle.packet_rules.proofs.values.Goals as goal

pub returns-in-Indicator : goal.returns-in-Indicator
returns-in-Indicator c = rw (c.in-Old.is, c.in-Indicator.is)

pub returns-in-Data : goal.returns-in-Data
returns-in-Data c = rw (c.in-Old.is, c.in-Data.is)

pub returns-in-Indicator-kind : goal.returns-in-Indicator-kind
returns-in-Indicator-kind c = rw (c.in-New.is, c.in-Indicator-kind.is)

pub returns-in-Data-kind : goal.returns-in-Data-kind
returns-in-Data-kind c = rw (c.in-New.is, c.in-Data-kind.is)
