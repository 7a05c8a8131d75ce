-- Solve refuses with 17 exactly outside the ranges and with 23 exactly where nothing satisfies the equations, and a refusal changes
-- nothing: read off its three outcomes. Assumes nothing.
use Rattle.std.proofs.Common.{Result}
use Rattle.length.specs.declared.Refusal.{Refusal}
use Prim.Native.Nat.{ℕ}
use mathlib.Core.Path.{◌≡◌, sym, ap, ◌∙◌}
use mathlib.Core.Bool.{true, false, false≢true}
use mathlib.Core.Option.{Option, none, some, some-injective}
use native.Mathlib.Omega.{arith}
use Rattle.length.specs.Refusals.{outside_ranges, no_solution, number_of}
use Rattle.length.specs.Tables.{refusal_in, place_in}
use Rattle.length.specs.declared.Reason.{Reason}
use Rattle.session_held.specs.Laid.{session_in_ranges}
use Rattle.session_held.specs.declared.Session.{Session}
use Rattle.solve_code.specs.Outcome.{solved_outcome}
use Rattle.session_calls.specs.SolverClaims.{HasSolution, HasNone}
use Rattle.session_calls.specs.declared.Returned.{Returned}
use Rattle.session_calls.proofs.SolverClaims.{CameTo, outside, unsolvable, filled, came-to}
use Rattle.demands.specs.Demand1.Demand1.{SolvingCalls}

abbrev why : Result (Unit {0}) Refusal → Option Reason
why answer = refusal_in (solved_outcome answer)

23-not-17 : ◌≡◌ {A = Option Reason} (some no_solution) (some outside_ranges) → ⊥
23-not-17 e = let same = ap number_of (some-injective no_solution outside_ranges e) in omega arith

not_some : (n : Reason) → ◌≡◌ {A = Option Reason} none (some n) → ⊥
not_some n e = let z : ◌≡◌ {A = ℕ} 0 1 = cc in omega arith

module _ {s : Session} {r : Returned (Unit {0})} where
  17-outside : CameTo s r → why r.answer ≡ some outside_ranges → session_in_ranges s ≡ false
  17-outside (outside out a stays) e = out
  17-outside (unsolvable inside nothing a stays) e = absurd (23-not-17 (sym (ap why a) ∙ e))
  17-outside (filled inside a v t seen) e = absurd (not_some outside_ranges (sym (ap why a) ∙ e))

  outside-17 : CameTo s r → session_in_ranges s ≡ false → why r.answer ≡ some outside_ranges
  outside-17 (outside out a stays) e = ap why a
  outside-17 (unsolvable inside nothing a stays) e = absurd (false≢true (sym e ∙ inside))
  outside-17 (filled inside a v t seen) e = absurd (false≢true (sym e ∙ inside))

  23-none : CameTo s r → why r.answer ≡ some no_solution → (session_in_ranges s ≡ true) × HasNone s
  23-none (outside out a stays) e = absurd (23-not-17 (sym (sym (ap why a) ∙ e)))
  23-none (unsolvable inside nothing a stays) e = (inside, nothing)
  23-none (filled inside a v t seen) e = absurd (not_some no_solution (sym (ap why a) ∙ e))

  none-23 : CameTo s r → (session_in_ranges s ≡ true) × HasNone s → why r.answer ≡ some no_solution
  none-23 (outside out a stays) e = absurd (false≢true (sym out ∙ e.0))
  none-23 (unsolvable inside nothing a stays) e = ap why a
  none-23 (filled inside a v t seen) e = absurd (e.1 t.cells.some.0 t.cells.some.1)

  done-some : CameTo s r → why r.answer ≡ none → (session_in_ranges s ≡ true) × HasSolution s
  done-some (outside out a stays) e = absurd (not_some outside_ranges (sym e ∙ ap why a))
  done-some (unsolvable inside nothing a stays) e = absurd (not_some no_solution (sym e ∙ ap why a))
  done-some (filled inside a v t seen) e = (inside, t.cells.some)

  some-done : CameTo s r → (session_in_ranges s ≡ true) × HasSolution s → why r.answer ≡ none
  some-done (outside out a stays) e = absurd (false≢true (sym out ∙ e.0))
  some-done (unsolvable inside nothing a stays) e = absurd (nothing e.1.0 e.1.1)
  some-done (filled inside a v t seen) e = ap why a

  refused-unchanged : CameTo s r → (n : Reason) → why r.answer ≡ some n → r.session ≡ s
  refused-unchanged (outside out a stays) n e = stays
  refused-unchanged (unsolvable inside nothing a stays) n e = stays
  refused-unchanged (filled inside a v t seen) n e = absurd (not_some n (sym (ap why a) ∙ e))

  place-0 : CameTo s r → place_in (solved_outcome r.answer) ≡ 0
  place-0 (outside out a stays) = ap (λ (x : Result (Unit {0}) Refusal). place_in (solved_outcome x)) a
  place-0 (unsolvable inside nothing a stays) = ap (λ (x : Result (Unit {0}) Refusal). place_in (solved_outcome x)) a
  place-0 (filled inside a v t seen) = ap (λ (x : Result (Unit {0}) Refusal). place_in (solved_outcome x)) a

pub solving : SolvingCalls
solving =
    record {
      outside = λ {s} {r} o. (17-outside (came-to s r o), outside-17 (came-to s r o));
      unsolvable = λ {s} {r} o. (23-none (came-to s r o), none-23 (came-to s r o));
      filled = λ {s} {r} o. (done-some (came-to s r o), some-done (came-to s r o));
      unchanged = λ {s} {r} {n} o e. refused-unchanged (came-to s r o) n e;
      place = λ {s} {r} o. place-0 (came-to s r o);
    }
