-- The claims of this crate, each proved by a law. Two answers are equal since each promise is an equation. Assumes nothing.
use mathlib.Core.Path.{sym, ◌∙◌}
use Rattle.solve_algebra.specs.MasksClaims.{OneOutcome, Claims}
use Rattle.solve_algebra.proofs.Powers.{sum-mask}
use Rattle.solve_algebra.proofs.Places.{lone-exact, lone_is}

one-outcome : OneOutcome
one-outcome =
    record {
      has = λ {mask} {place} {r} {q} p t. p.answer ∙ sym t.answer;
      one = λ {place} {r} {q} p t. p.answer ∙ sym t.answer;
      first = λ {mask} {r} {q} p t. p.answer ∙ sym t.answer;
      lone = λ {mask} {r} {q} p t. p.answer ∙ sym t.answer;
      back = λ {at} {n} {m} {r} {q} p t. p.answer ∙ sym t.answer;
    }

pub claims : Claims
claims =
    record {
      lone_exact = λ mask p inside. (lone_is mask p inside, lone-exact mask p inside);
      sums_up = sum-mask;
      one_outcome = one-outcome;
    }
