-- `datagram_reader::spares_at` meets its contract: the count's answer gives each answer. Assumes nothing.
use Rattle.std.proofs.Common.{rules}
use Rattle.datagram.specs.Read.{spares_at}
use Rattle.datagram_reader.proofs.ReadSteps.{length-ends}
use native.Mathlib.Omega.{arith}
use Rattle.datagram_reader.proofs.reader.spares_at.Goals as goal

pub returns-in_err-found : goal.returns-in_err-found
unfolding spares_at
returns-in_err-found c = search rules

pub overflow_add-first : goal.overflow_add-first
overflow_add-first c = omega (arith, length-ends c.length_at.ensures c.in_ok-found.was (search rules))

pub returns : goal.returns
unfolding spares_at
returns c = search rules
