-- `datagram_reader::extra_at` meets its contract: the choice octet's tests, then spares or parity, give each answer. Assumes nothing.
use Rattle.datagram_reader.proofs.ReadSteps.{choices}
use Rattle.datagram_reader.proofs.reader.extra_at.Goals as goal

pub returns-then-octets-at : goal.returns-then-octets-at
returns-then-octets-at c = search choices

pub returns-then-low-ne0 : goal.returns-then-low-ne0
returns-then-low-ne0 c = search choices

pub returns-then-choice-lt128 : goal.returns-then-choice-lt128
returns-then-choice-lt128 c = search choices

pub returns : goal.returns
returns c = search choices
