-- `datagram_reader::parity_at` meets its contract: octet 01, octet n and the count in turn give each answer; an octet that reads
-- lies within the octets. Assumes nothing.
use Rattle.std.proofs.Common.{rules}
use Rattle.datagram.specs.Read.{parity_at}
use Rattle.datagram_reader.proofs.ReadSteps.{length-ends, octet-ends}
use native.Mathlib.Omega.{arith}
use Rattle.datagram_reader.proofs.reader.parity_at.Goals as goal

pub returns-in_err-octet_at : goal.returns-in_err-octet_at
unfolding parity_at
returns-in_err-octet_at c = search rules

pub returns-in_err-covered : goal.returns-in_err-covered
unfolding parity_at
returns-in_err-covered c = search rules

pub length_at-requires : goal.length_at-requires
length_at-requires c = omega (arith, octet-ends c.octet_at-2.ensures c.in_ok-covered.was)

pub returns-in_err-found : goal.returns-in_err-found
unfolding parity_at
returns-in_err-found c = search rules

pub overflow_add-first : goal.overflow_add-first
overflow_add-first c =
    omega (
      arith,
      length-ends c.length_at.ensures c.in_ok-found.was (omega (arith, octet-ends c.octet_at-2.ensures c.in_ok-covered.was)),
    )

pub returns : goal.returns
unfolding parity_at
returns c = search rules
