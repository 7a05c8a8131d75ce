-- `session_calls::release` meets its contract: outside the ranges 17 and the very session, within them what the core owes. Assumes nothing.
use Rattle.std.proofs.Common.{rules}
use Rattle.session_calls.proofs.Called.{calls, within-session}
use Rattle.session_calls.proofs.receiver.release.Goals as goal

pub release_core-done-requires : goal.release_core-done-requires
release_core-done-requires c =
    within-session c.in_ranges.ensures c.if-not-in_ranges.false
    (record { table = search rules; octets = search rules; messages = search rules })

pub returns-then-not-in_ranges : goal.returns-then-not-in_ranges
returns-then-not-in_ranges c = search calls

pub returns : goal.returns
returns c = search calls
