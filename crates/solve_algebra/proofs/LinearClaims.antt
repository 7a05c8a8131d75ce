-- The claims of this crate, each proved by a law. Assumes nothing.
use mathlib.Core.Path.{sym, ◌∙◌}
use mathlib.Core.Logic.{⊎_elim}
use Rattle.solve_algebra.specs.LinearClaims.{Claims}
use Rattle.solve_algebra.proofs.Tests.{alone-or-not}
use Rattle.solve_algebra.proofs.Solving.{solved, solved-satisfies, alone-value, undetermined, satisfied-consistent}

pub claims : Claims
claims =
    record {
      solvable = λ n m rows asked reduced. (
        λ found. satisfied-consistent n m rows asked found.0 found.1,
        λ consistent. (
          solved n m rows asked (λ c. 0),
          solved-satisfies n m rows asked (λ c. 0) reduced consistent,
        ),
      );
      one_value = λ n m rows asked reduced consistent p inside. (
        λ one.
            ⊎_elim (λ found. found) (λ none. absurd (undetermined n m rows asked reduced consistent p inside none one))
            (alone-or-not n m rows p),
        λ found x y sx sy.
            alone-value n m rows asked x sx p inside found ∙ sym (alone-value n m rows asked y sy p inside found),
      );
      what_is_asked = λ n m rows asked values satisfies p inside found. alone-value n m rows asked values satisfies p inside found;
    }
