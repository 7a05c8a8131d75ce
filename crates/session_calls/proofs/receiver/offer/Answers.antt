-- `session_calls::offer` meets its contract: outside the ranges 17 and the very session, within them what the core owes. Assumes nothing.
use Rattle.std.proofs.Common.{rules}
use Rattle.session_calls.proofs.Called.{calls, within-session}
use Rattle.session_calls.proofs.receiver.offer.Goals as goal

pub offer_core-answer-requires : goal.offer_core-answer-requires
offer_core-answer-requires c =
    within-session c.in_ranges.ensures c.if-not-in_ranges.false
    (record { table = search rules; octets = search rules; messages = search rules })

pub returns-then-not-in_ranges : goal.returns-then-not-in_ranges
returns-then-not-in_ranges c = search calls

pub returns : goal.returns
returns c = search calls
