-- The tests of an empty row and of a column that stands alone tell what they are named after. Assumes nothing.
use Prim.Native.Nat.{ℕ, ◌≤◌, ◌<◌}
use mathlib.Core.Path.{◌≡◌, refl, sym, ◌∙◌}
use mathlib.Core.Logic.{◌⊎◌, inl, inr, ⊎_elim}
use mathlib.Core.Bool.{Bool, true, false, not, ◌||◌, false≢true}
use lib.Dec.{eqb}
use borrow.Author.Tests.{ne_eqb, eqb-false, not-true}
use native.Mathlib.Omega.{arith}
use Rattle.octets.proofs.Laws.{all_below-at, all_below-of, below_or_not, same_or_not, and_left, and_right, and_both}
use Rattle.solve_algebra.specs.Systems.{Empty, empty_test, Alone, alone_test, HasAlone, alone_row}
use Rattle.solve_algebra.proofs.First.{first_passes, first-least}

-- ---- empty
pub empty-says : (n : ℕ) (row : ℕ → Bool) → empty_test n row ≡ true → Empty n row
unfolding empty_test
empty-says n row e c inside = not-true (row c) (all_below-at n (λ k. not (row k)) e c inside)

pub empty_of : (n : ℕ) (row : ℕ → Bool) → Empty n row → empty_test n row ≡ true
unfolding empty_test
empty_of n row empty = all_below-of n (λ k. not (row k)) (λ c inside. none (row c) (empty c inside))
  where
    none : (t : Bool) → t ≡ false → not t ≡ true
    none true e = sym e
    none false e = refl

-- ---- alone
or-not : (a b : Bool) → (a || not b) ≡ true → a ≡ false → b ≡ false
or-not true b e f = absurd (false≢true (sym f))
or-not false b e f = not-true b e

or-of : (a b : Bool) → (a ≡ false → b ≡ false) → (a || not b) ≡ true
or-of true b e = refl
or-of false true e = sym (e refl)
or-of false false e = refl

module _ (n : ℕ) (row : ℕ → Bool) (p : ℕ) where
  pub alone-says : alone_test n row p ≡ true → Alone n row p
  unfolding alone_test
  alone-says e =
      record {
        has = and_left (row p) _ e;
        others = λ c inside other.
            or-not (eqb c p) (row c) (all_below-at n (λ k. eqb k p || not (row k)) (and_right (row p) _ e) c inside) (ne_eqb c p other);
      }

  pub alone_of : Alone n row p → alone_test n row p ≡ true
  unfolding alone_test
  alone_of alone =
      and_both alone.has
      (all_below-of n (λ k. eqb k p || not (row k))
      (λ c inside. or-of (eqb c p) (row c) (λ e. alone.others c inside (eqb-false c p e))))

  -- no other has what it has
  pub alone-only : Alone n row p → (c : ℕ) → c < n → row c ≡ true → c ≡ p
  alone-only alone c inside has =
      ⊎_elim (λ same. same) (λ other. absurd (false≢true (sym (alone.others c inside other) ∙ has))) (same_or_not c p)

-- ---- the first row that has column p alone
module _ (n m : ℕ) (rows : ℕ → ℕ → Bool) (p : ℕ) where
  pub alone-found : alone_row n m rows p < m → Alone n (rows (alone_row n m rows p)) p
  unfolding alone_row
  alone-found inside =
      alone-says n (rows (alone_row n m rows p)) p (first_passes m (λ i. alone_test n (rows i) p) inside)

  pub alone-no-later : (i : ℕ) → Alone n (rows i) p → alone_row n m rows p ≤ i
  unfolding alone_row
  alone-no-later i alone = first-least m (λ j. alone_test n (rows j) p) i (alone_of n (rows i) p alone)

  pub alone-or-not : HasAlone n m rows p ⊎ (HasAlone n m rows p → ⊥)
  alone-or-not =
      ⊎_elim (λ inside. inl (record { row = alone_row n m rows p; inside = inside; alone = alone-found inside }))
      (λ past. inr (λ found. omega (arith, alone-no-later found.row found.alone, found.inside)))
      (below_or_not (alone_row n m rows p) m)
