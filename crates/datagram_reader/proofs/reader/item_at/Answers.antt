-- `datagram_reader::item_at` meets its contract: its length's answer, then the octets that are left, give each answer. Assumes nothing.
use Rattle.std.proofs.Common.{rules}
use Rattle.datagram.specs.Read.{item_at}
use Rattle.datagram_reader.proofs.ReadSteps.{length-ends, itemings}
use native.Mathlib.Omega.{arith}
use Rattle.datagram_reader.proofs.reader.item_at.Goals as goal

pub returns-in_err-found : goal.returns-in_err-found
unfolding item_at
returns-in_err-found c = search rules

pub overflow_add-start : goal.overflow_add-start
overflow_add-start c = omega (arith, length-ends c.length_at.ensures c.in_ok-found.was (search rules))

pub overflow_sub-octets : goal.overflow_sub-octets
overflow_sub-octets c = length-ends c.length_at.ensures c.in_ok-found.was (search rules)

pub returns-then-octets-start : goal.returns-then-octets-start
returns-then-octets-start c = search (rules, itemings)

pub returns : goal.returns
returns c = search (rules, itemings)
