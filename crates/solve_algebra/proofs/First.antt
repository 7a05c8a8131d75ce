-- Laws of the first place that passes a test. Assumes nothing.
use Prim.Native.Nat.{ℕ, zero, suc, ◌≤◌, ◌<◌, suc-le-suc}
use mathlib.Core.Path.{◌≡◌, refl, sym, ◌∙◌}
use mathlib.Core.Logic.{⊎_elim}
use mathlib.Core.Bool.{Bool, true, false, cond, false≢true}
use native.Mathlib.Nat.{not-suc-le-zero, le_of_suc-le-suc}
use native.Mathlib.Omega.{arith}
use Rattle.octets.proofs.Laws.{below_or_not, true-or-false}
use Rattle.solve_algebra.specs.First.{first_passing}

-- where it is below n, the place passes
pub first_passes : (n : ℕ) (test : ℕ → Bool) → first_passing n test < n → test (first_passing n test) ≡ true
unfolding first_passing
first_passes zero test below = absurd (not-suc-le-zero below)
first_passes (suc n) test below = pick (test zero) refl (first_passes n (λ k. test (suc k))) below
  where
    pick : (t : Bool) → test zero ≡ t → (first_passing n (λ k. test (suc k)) < n → test (suc (first_passing n (λ k. test (suc k)))) ≡ true)
        → cond t zero (suc (first_passing n (λ k. test (suc k)))) < suc n → test (cond t zero (suc (first_passing n (λ k. test (suc k))))) ≡ true
    pick true e later below = e
    pick false e later below = later (le_of_suc-le-suc below)

-- where a place passes, the first is no later
pub first-least : (n : ℕ) (test : ℕ → Bool) (k : ℕ) → test k ≡ true → first_passing n test ≤ k
unfolding first_passing
first-least zero test k passes = omega arith
first-least (suc n) test zero passes = rw passes (omega arith)
first-least (suc n) test (suc k) passes = pick (test zero) (first-least n (λ j. test (suc j)) k passes)
  where
    pick : (t : Bool) → first_passing n (λ j. test (suc j)) ≤ k → cond t zero (suc (first_passing n (λ j. test (suc j)))) ≤ suc k
    pick true least = omega arith
    pick false least = suc-le-suc least

-- it is at most n
pub first-most : (n : ℕ) (test : ℕ → Bool) → first_passing n test ≤ n
unfolding first_passing
first-most zero test = omega arith
first-most (suc n) test = pick (test zero) (first-most n (λ j. test (suc j)))
  where
    pick : (t : Bool) → first_passing n (λ j. test (suc j)) ≤ n → cond t zero (suc (first_passing n (λ j. test (suc j)))) ≤ suc n
    pick true most = omega arith
    pick false most = suc-le-suc most

-- none before it passes
pub first-before : (n : ℕ) (test : ℕ → Bool) (k : ℕ) → k < first_passing n test → test k ≡ false
first-before n test k early =
    ⊎_elim (λ passes. absurd (omega (arith, first-least n test k passes))) (λ fails. fails) (true-or-false (test k))

-- where a search has come to: none before passes, and it has found one or come to the end
pub first-is : (n : ℕ) (test : ℕ → Bool) (i : ℕ) → i ≤ n → ((k : ℕ) → k < i → test k ≡ false) → (i < n → test i ≡ true)
    → i ≡ first_passing n test
first-is n test i most before here =
    ⊎_elim
    (λ early. absurd (false≢true (sym (before (first_passing n test) early) ∙ first_passes n test (omega arith))))
    (λ late.
    ⊎_elim (λ inside. omega (arith, first-least n test i (here inside))) (λ past. omega (arith, first-most n test)) (below_or_not i n))
    (below_or_not (first_passing n test) i)
