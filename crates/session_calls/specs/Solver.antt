-- What solve promises: 17 exactly if the session is outside its ranges, otherwise what the held messages mean as equations (`solve`,
-- Equations and Solved): each unknown number that has only one value is filled, and 23 exactly if nothing satisfies them. A refusal changes
-- nothing (rules 14.2 to 14.8). How it is computed is not part of the promise. Definitions only.
use Rattle.std.specs.Prelude.{◌≡◌, true, false}
use Rattle.length.specs.Refusals.{outside_ranges}
use Rattle.length.specs.Answers.{Answer, refuse}
use Rattle.session.specs.View.{View}
use Rattle.session_held.specs.Table.{view_of}
use Rattle.session_held.specs.Laid.{session_in_ranges}
use Rattle.session_held.specs.declared.Session.{Session}
use Rattle.solve.specs.Solved.{Solves}
use Rattle.solve_code.specs.Outcome.{solved_outcome, filled_of}
use Rattle.session_calls.specs.Receiver.{After}
use Rattle.session_calls.specs.declared.Returned.{Returned}

-- what a solve of this session comes to: 17 outside the ranges, before all else; within them what the equations mean (rule 14.7). There is
-- one such answer for each session (`SolverClaims.one_answer`)
pub record SolvesAs (s : Session) (wanted : Answer View) : Type 0 where
  pub outside : session_in_ranges s ≡ false → wanted ≡ refuse outside_ranges
  pub inside : session_in_ranges s ≡ true → Solves (view_of s) wanted

-- the answer reports it, and the session after has it as its view; after a refusal the session is unchanged
pub record SolveOwes (s : Session) (r : Returned (Unit {0})) : Type 0 where
  pub wanted : Answer View
  pub means : SolvesAs s wanted
  pub answer : solved_outcome r.answer ≡ filled_of wanted
  pub state : After wanted s r.session
