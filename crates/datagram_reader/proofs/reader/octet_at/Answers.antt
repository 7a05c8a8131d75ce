-- `datagram_reader::octet_at` meets its contract: the tests give each answer. Assumes nothing.
use Rattle.datagram_reader.proofs.ReadSteps.{octets}
use Rattle.datagram_reader.proofs.reader.octet_at.Goals as goal

pub returns-then-octets-at : goal.returns-then-octets-at
returns-then-octets-at c = search octets

pub returns-then-within : goal.returns-then-within
returns-then-within c = search octets

pub returns : goal.returns
returns c = search octets
