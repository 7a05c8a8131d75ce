-- The first row from a place on that has a column, on plain values. Assumes nothing.
use Prim.Native.Nat.{ℕ, ◌+◌, ◌≤◌, ◌<◌}
use mathlib.Core.Path.{◌≡◌, sym, ap, ◌∙◌}
use mathlib.Core.Logic.{⊎_elim}
use mathlib.Core.Bool.{Bool, true, false, ◌&&◌, and-false}
use mathlib.Core.List.{List}
use lib.Dec.{leb}
use borrow.Author.Tests.{le-leb, lt-leb, leb-true}
use native.Mathlib.Omega.{arith}
use Rattle.octets.proofs.Laws.{below_or_not, same_or_not, true-or-false, and_left, and_right, and_both}
use Rattle.solve_algebra.specs.First.{first_passing}
use Rattle.solve_algebra.proofs.LinearLaws.{first_passes, first-least, first-is}
use Rattle.solve_algebra.specs.MasksPromise.{HasTold}
use Rattle.solve_algebra.specs.Rows.{table_rows, row_at, columns_of}
use Rattle.solve_algebra.specs.Eliminated.{pivot_in}
use Rattle.solve_algebra.specs.Promise.{PivotFound}
use Rattle.solve_algebra.specs.declared.Row.{Row}

-- ---- what is found
module _ (rows : List Row) (from c : ℕ) where
  test : ℕ → Bool
  test i = leb from i && columns_of rows i c

  pub pivot-low : from ≤ table_rows → from ≤ pivot_in rows from c
  unfolding pivot_in test
  pivot-low few =
      ⊎_elim
      (λ below. leb-true from (first_passing table_rows test) (and_left (leb from (first_passing table_rows test)) _ (first_passes table_rows test below)))
      (λ past. omega arith)
      (below_or_not (first_passing table_rows test) table_rows)

  pub pivot-has : pivot_in rows from c < table_rows → columns_of rows (pivot_in rows from c) c ≡ true
  unfolding pivot_in test
  pivot-has below = and_right (leb from (first_passing table_rows test)) _ (first_passes table_rows test below)

  pub pivot-before : (i : ℕ) → from ≤ i → i < pivot_in rows from c → columns_of rows i c ≡ false
  unfolding pivot_in test
  pivot-before i least early =
      ⊎_elim (λ has. absurd (omega (arith, first-least table_rows test i (and_both (le-leb from i least) has)))) (λ has-not. has-not)
      (true-or-false (columns_of rows i c))

-- ---- the search: none from `from` on and before i has the column
pub record Seeking (rows : List Row) (from c i : ℕ) : Type 0 where
  pub low : from ≤ i
  pub most : i ≤ table_rows
  pub before : (k : ℕ) → from ≤ k → k < i → columns_of rows k c ≡ false

pub seeking-start : (rows : List Row) (from c : ℕ) → from ≤ table_rows → Seeking rows from c from
seeking-start rows from c most = record { low = omega arith; most = most; before = λ k low below. absurd (omega arith) }

pub seeking-turn : {rows : List Row} {from c i : ℕ} {there : Bool} → Seeking rows from c i → i < table_rows
    → HasTold (row_at rows i).mask c there → there ≡ false → Seeking rows from c (i + 1)
seeking-turn {rows} {from} {c} {i} s more told none =
    record {
      low = omega (arith, s.low);
      most = omega arith;
      before = λ k low below.
          ⊎_elim (λ same. ap (λ (j : ℕ). columns_of rows j c) same ∙ sym told.answer ∙ none) (λ other. s.before k low (omega arith))
          (same_or_not k i);
    }

seeking-ends : {rows : List Row} {from c i : ℕ} → Seeking rows from c i → (i < table_rows → columns_of rows i c ≡ true)
    → PivotFound rows from c i
unfolding pivot_in
seeking-ends {rows} {from} {c} {i} s here =
    record {
      answer = first-is table_rows (λ k. leb from k && columns_of rows k c) i s.most before
          (λ inside. and_both (le-leb from i s.low) (here inside));
    }
  where
    before : (k : ℕ) → k < i → (leb from k && columns_of rows k c) ≡ false
    before k early =
        ⊎_elim (λ below. ap (λ (t : Bool). t && columns_of rows k c) (lt-leb from k below))
        (λ least. ap (λ (t : Bool). leb from k && t) (s.before k least early) ∙ and-false (leb from k))
        (below_or_not k from)

pub seeking-found : {rows : List Row} {from c i : ℕ} {there : Bool} → Seeking rows from c i
    → HasTold (row_at rows i).mask c there → there ≡ true → PivotFound rows from c i
seeking-found s told has = seeking-ends s (λ inside. sym told.answer ∙ has)

pub seeking-none : {rows : List Row} {from c i : ℕ} → Seeking rows from c i → table_rows ≤ i → PivotFound rows from c table_rows
seeking-none {rows} {from} {c} {i} s all =
    let last : i ≡ table_rows = omega (arith, s.most) in
    rw last at (seeking-ends s (λ inside. absurd (omega arith)))
