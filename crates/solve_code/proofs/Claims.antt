-- The claims of this crate. Assumes nothing.
use Rattle.std.proofs.Common.{◌≡◌, sym, refl, ◌∙◌, Result, Ok, Err}
use Rattle.length.specs.declared.Refusal.{Refusal}
use Rattle.length.specs.Answers.{done, refused}
use Rattle.length.proofs.Laws.{not_done}
use Rattle.solve_code.specs.Outcome.{solved_outcome}
use Rattle.solve_code.specs.Claims.{Claims}

-- the same outcome is the same answer
pub solved-told : (r q : Result (Unit {0}) Refusal) → solved_outcome r ≡ solved_outcome q → r ≡ q
solved-told (Ok x) (Ok y) e = refl
solved-told (Ok y) (Err x) e = absurd (not_done (sym e))
solved-told (Err x) (Ok y) e = absurd (not_done e)
solved-told (Err x) (Err y) e = cc

pub claims : Claims
claims =
    record {
      one_outcome = λ before after other r q s t. (solved-told r q (s.told ∙ sym t.told), s.state ∙ sym t.state);
    }
