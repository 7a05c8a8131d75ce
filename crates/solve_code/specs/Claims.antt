-- The claim about the solve call inside a session. Statements alone.
use Rattle.std.specs.Prelude.{◌≡◌, Result}
use Rattle.length.specs.declared.Refusal.{Refusal}
use Rattle.session_held.specs.Table.{Lent, view_in}
use Rattle.solve_code.specs.Promise.{Solving}

-- two answers that the promise allows are equal, and so are the views of the two sessions (rule 28.14)
abbrev pub OneOutcome : Type 0
OneOutcome = (before after other : Lent) (r q : Result (Unit {0}) Refusal) → Solving before after r → Solving before other q
    → (r ≡ q) × (view_in after ≡ view_in other)

pub record Claims : Type 0 where
  pub one_outcome : OneOutcome
