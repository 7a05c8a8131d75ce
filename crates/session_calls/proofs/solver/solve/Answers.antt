-- `session_calls::solve` meets its contract: outside the ranges 17 and the very session, within them what the core owes. Assumes nothing.
use Rattle.std.proofs.Common.{rules}
use Rattle.session_calls.proofs.Called.{within-session}
use Rattle.session_calls.proofs.SolvedLaws.{solves}
use Rattle.session_calls.proofs.solver.solve.Goals as goal

pub solve_core-answer-requires : goal.solve_core-answer-requires
solve_core-answer-requires c =
    within-session c.in_ranges.ensures c.if-not-in_ranges.false
    (record { table = search rules; octets = search rules; messages = search rules })

pub returns-then-not-in_ranges : goal.returns-then-not-in_ranges
returns-then-not-in_ranges c = search solves

pub returns : goal.returns
returns c = search solves
