-- `datagram_reader::length_at` meets its contract: the length reader is lent the rest from there on, and its refusal, at the front of
-- that, is passed further on. Assumes nothing.
use native.Mathlib.Omega.{arith}
use Rattle.datagram_reader.proofs.ReadSteps.{told-front, rests}
use Rattle.datagram_reader.proofs.reader.length_at.Goals as goal

pub further-requires : goal.further-requires
further-requires c = omega (arith, told-front c.read_within-read.ensures c.in_default.is c.refusal.ensures)

pub returns-in_default : goal.returns-in_default
returns-in_default c = search rests

pub returns : goal.returns
returns c = search rests
