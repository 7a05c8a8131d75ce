-- The datagram writer's tests, in the words of the code: one law for each answer of `sums_to`, and what `items_inside`
-- tests. Assumes nothing.
use Prim.Native.Nat.{ℕ, zero, suc, ◌+◌, ◌-◌, ◌≤◌, ◌<◌}
use mathlib.Core.Path.{◌≡◌, refl, sym, ap, ◌∙◌}
use mathlib.Core.Logic.{◌⊎◌, inl, inr, ⊎_elim}
use mathlib.Core.Bool.{Bool, false, ◌&&◌}
use mathlib.Core.List.{List, [], ◌∷◌}
use lib.ListN.{length, get_or, drop, drop_of_length-le}
use lib.Dec.{eqb}
use native.Mathlib.Omega.{arith}
use borrow.Author.Tests.{eq-eqb, ne_eqb}
use Rattle.std.specs.List.{list_all}
use Rattle.datagram.specs.Write.{item_inside, items_inside, sum_of}
use Rattle.datagram.specs.declared.kind.Kind.{Kind}
use Rattle.datagram.proofs.Laws.{sum-next}

none_or_some : (n : ℕ) → (n ≡ 0) ⊎ (0 < n)
none_or_some zero = inl refl
none_or_some (suc n) = inr (omega arith)

-- ---- items_inside

-- the library's word for it
pub all-inside : (k : Kind) (lengths : List ℕ) → list_all (item_inside k) lengths ≡ items_inside k lengths
unfolding items_inside
all-inside k [] = refl
all-inside k (n ∷ lengths) = ap (λ (b : Bool). item_inside k n && b) (all-inside k lengths)

-- ---- sums_to

-- what is left of the total is for the lengths from place i on
pub record SumLeft (lengths : List ℕ) (total left i : ℕ) : Type 0 where
  pub bound : i ≤ length lengths
  pub owed : sum_of (drop i lengths) + total ≡ sum_of lengths + left

sum-none : (lengths : List ℕ) (i : ℕ) → length lengths ≤ i → sum_of (drop i lengths) ≡ 0
unfolding sum_of
sum-none lengths i end = rw (drop_of_length-le lengths end)

module _ {lengths : List ℕ} {total : ℕ} where
  pub sum-turn : {left i n : ℕ} → SumLeft lengths total left i → i < length lengths → n ≡ get_or lengths i 0 → n ≤ left
      → SumLeft lengths total (left - n) (i + 1)
  sum-turn {left} {i} v more e some = let next = sum-next lengths i more in record { bound = omega arith; owed = omega arith }

  pub sum-short : {left i n : ℕ} → SumLeft lengths total left i → i < length lengths → n ≡ get_or lengths i 0 → left < n
      → false ≡ eqb (sum_of lengths) total
  sum-short {left} {i} v more e short =
      let next = sum-next lengths i more in
      sym (ne_eqb (sum_of lengths) total (λ same. omega arith))

  pub sum_done : {left i : ℕ} → SumLeft lengths total left i → length lengths ≤ i → eqb left 0 ≡ eqb (sum_of lengths) total
  sum_done {left} {i} v end =
      let none = sum-none lengths i end in
      ⊎_elim (λ zero. eq-eqb left 0 zero ∙ sym (eq-eqb (sum_of lengths) total (omega arith)))
      (λ some. ne_eqb left 0 (λ zero. omega arith) ∙ sym (ne_eqb (sum_of lengths) total (λ same. omega arith)))
      (none_or_some left)

pub ruleset tests = (sum-turn, sum-short, sum_done)
