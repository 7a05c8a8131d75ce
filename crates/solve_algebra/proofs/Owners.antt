-- Columns that are a row's own: each row's first one, and the row that a column belongs to. Assumes nothing.
use Prim.Native.Nat.{ℕ, ◌≤◌, ◌<◌}
use mathlib.Core.Path.{◌≡◌, refl, sym, ap, ◌∙◌}
use mathlib.Core.Logic.{⊎_elim}
use mathlib.Core.Bool.{Bool, true}
use lib.Dec.{eqb}
use borrow.Author.Tests.{eq-eqb, eqb-true}
use native.Mathlib.Omega.{arith}
use Rattle.octets.proofs.Laws.{below_or_not}
use Rattle.solve_algebra.specs.First.{first_passing}
use Rattle.solve_algebra.specs.Systems.{alone_test, Owns}
use Rattle.solve_algebra.proofs.First.{first_passes, first-least}
use Rattle.solve_algebra.proofs.Tests.{alone-says, alone_of, alone-only}

-- the first column that is row i's own; n where none is
pub own : ℕ → ℕ → (ℕ → ℕ → Bool) → ℕ → ℕ
own n m rows i = first_passing n (λ c. alone_test m (λ j. rows j c) i)

-- the row whose own column is c; m where none is
pub owner : ℕ → ℕ → (ℕ → ℕ → Bool) → ℕ → ℕ
owner n m rows c = first_passing m (λ i. eqb (own n m rows i) c)

module _ (n m : ℕ) (rows : ℕ → ℕ → Bool) where
  -- a row's own column, where it has one
  pub own-owns : (i : ℕ) → own n m rows i < n → Owns n m rows i (own n m rows i)
  unfolding own
  own-owns i below =
      record {
        inside = below;
        alone = alone-says m (λ j. rows j (own n m rows i)) i (first_passes n (λ c. alone_test m (λ j. rows j c) i) below);
      }

  pub own_below : (i c : ℕ) → Owns n m rows i c → own n m rows i < n
  unfolding own
  own_below i c owns =
      omega (arith, first-least n (λ k. alone_test m (λ j. rows j k) i) c (alone_of m (λ j. rows j c) i owns.alone), owns.inside)

  -- a column that has an owner is that row's own
  pub owner_owns : (c : ℕ) → owner n m rows c < m → own n m rows (owner n m rows c) ≡ c
  unfolding owner
  owner_owns c early = eqb-true _ _ (first_passes m (λ j. eqb (own n m rows j) c) early)

  -- the owner of a row's own column is the row
  owner-inside : (i : ℕ) → i < m → owner n m rows (own n m rows i) < m
  unfolding owner
  owner-inside i below =
      omega (arith, first-least m (λ j. eqb (own n m rows j) (own n m rows i)) i (eq-eqb (own n m rows i) (own n m rows i) refl))

  pub owner_of : (i : ℕ) → i < m → own n m rows i < n → owner n m rows (own n m rows i) ≡ i
  owner_of i below has =
      let inside = owner-inside i below in
      let same = owner_owns (own n m rows i) inside in
      alone-only m (λ j. rows j (own n m rows i)) i (own-owns i has).alone (owner n m rows (own n m rows i)) inside
      (rw same at (own-owns (owner n m rows (own n m rows i)) (rw same has)).alone.has)

  -- a column of row i that is not its own has no owner
  pub no-owner : (i c : ℕ) → i < m → rows i c ≡ true → (c ≡ own n m rows i → ⊥) → c < n → m ≤ owner n m rows c
  no-owner i c below has other inside =
      ⊎_elim
      (λ early.
      let same = owner_owns c early in
      let owns : Owns n m rows (owner n m rows c) c = rw same at (own-owns (owner n m rows c) (rw same inside)) in
      absurd (other (sym same ∙ ap (own n m rows) (sym (alone-only m (λ j. rows j c) (owner n m rows c) owns.alone i below has)))))
      (λ late. late)
      (below_or_not (owner n m rows c) m)
