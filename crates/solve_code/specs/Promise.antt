-- The promise of the solve call inside a session, over its memory before and after (rules 14.2 to 14.8). Definitions only.
use Rattle.std.specs.Prelude.{◌≡◌, Result}
use Rattle.length.specs.Answers.{refused, afterwards}
use Rattle.length.specs.declared.Refusal.{Refusal}
use Rattle.session_held.specs.Table.{Lent, view_in}
use Rattle.session_held.specs.Laid.{InRanges}
use Rattle.solve.specs.Solve.{solve}
use Rattle.solve_code.specs.Outcome.{solved_outcome, filled_of}

-- the answer, and the session after, within its ranges; after a refusal it is unchanged (rules 13.13 and 14.7)
pub record Solving (before after : Lent) (answer : Result (Unit {0}) Refusal) : Type 0 where
  pub told : solved_outcome answer ≡ filled_of (solve (view_in before))
  pub state : view_in after ≡ afterwards (solve (view_in before)) (view_in before)
  pub within : InRanges after
  pub stays : (x : Refusal) → solve (view_in before) ≡ refused x → after ≡ before
