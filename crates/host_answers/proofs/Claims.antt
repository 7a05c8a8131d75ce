-- Two values that a promise allows are equal: from the promises. Assumes nothing.
use mathlib.Core.Path.{sym, ◌∙◌}
use Rattle.host_answers.specs.Claims.{OneOutcome, Claims}
use Rattle.host_answers.proofs.Cases.{cases}

one-outcome : OneOutcome
one-outcome =
    record {
      offered = λ a b. a.is ∙ sym b.is;
      released = λ a b. a.is ∙ sym b.is;
      written = λ a b. a.is ∙ sym b.is;
      frame = λ a b. a.is ∙ sym b.is;
      settings = λ a b. a.is ∙ sym b.is;
    }

pub claims : Claims
claims = record { one_outcome = one-outcome; cases = cases }
