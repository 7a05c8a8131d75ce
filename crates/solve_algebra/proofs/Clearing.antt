-- A column taken out of every row but the one that keeps it: no other row has it any more, a column that the kept row has not stays as
-- it was, and the same values satisfy the table. Assumes nothing.
use Prim.Native.Nat.{ℕ, ◌<◌}
use mathlib.Core.Path.{◌≡◌, refl, sym, ap, ap₂, ◌∙◌, subst}
use mathlib.Core.Logic.{⊎_elim, ◌↔◌}
use mathlib.Core.Bool.{Bool, true, false, cond, xor}
use mathlib.Core.List.{List}
use lib.ListN.{length}
use lib.Dec.{eqb}
use borrow.Author.Tests.{eq-eqb, ne_eqb}
use Rattle.octets.proofs.Laws.{tab-at, length-tab, same_or_not, true-or-false}
use Rattle.solve_algebra.proofs.LinearLaws.{xor-false}
use Rattle.solve_algebra.specs.Masks.{has_place}
use Rattle.solve_algebra.specs.Rows.{table_rows, no_row, row_at, columns_of, RowHolds, AllHold}
use Rattle.solve_algebra.specs.Eliminated.{combined_row, cleared_row, cleared_rows}
use Rattle.solve_algebra.specs.declared.Row.{Row}
use Rattle.solve_algebra.proofs.Combining.{mask-combined, holds-combined, holds-parted}

module _ (rows : List Row) (at c : ℕ) where
  cleared_at : (j : ℕ) → j < table_rows
      → row_at (cleared_rows rows at c) j ≡ cleared_row (row_at rows j) (row_at rows at) c (eqb j at)
  unfolding cleared_rows
  cleared_at j below = tab-at table_rows (λ k. cleared_row (row_at rows k) (row_at rows at) c (eqb k at)) j no_row below

  -- the row that keeps the column stays
  pub cleared-own : at < table_rows → row_at (cleared_rows rows at c) at ≡ row_at rows at
  unfolding cleared_row
  cleared-own below =
      cleared_at at below ∙ ap (λ (t : Bool). cleared_row (row_at rows at) (row_at rows at) c t) (eq-eqb at at refl)

  -- another that has the column is combined, and one that has it not stays
  cleared-combined : (j : ℕ) → j < table_rows → (j ≡ at → ⊥) → columns_of rows j c ≡ true
      → row_at (cleared_rows rows at c) j ≡ combined_row (row_at rows j) (row_at rows at)
  unfolding cleared_row
  cleared-combined j below other has =
      cleared_at j below
      ∙ ap (λ (t : Bool). cleared_row (row_at rows j) (row_at rows at) c t) (ne_eqb j at other)
      ∙ ap (λ (t : Bool). cond t (combined_row (row_at rows j) (row_at rows at)) (row_at rows j)) has

  cleared-without : (j : ℕ) → j < table_rows → columns_of rows j c ≡ false → row_at (cleared_rows rows at c) j ≡ row_at rows j
  unfolding cleared_row
  cleared-without j below has-not =
      cleared_at j below
      ∙ ap (λ (t : Bool). cond (eqb j at) (row_at rows j) (cond t (combined_row (row_at rows j) (row_at rows at)) (row_at rows j))) has-not
      ∙ either (eqb j at)
    where
      either : (t : Bool) → cond t (row_at rows j) (row_at rows j) ≡ row_at rows j
      either true = refl
      either false = refl

  -- no other row has the column any more
  pub cleared-gone : columns_of rows at c ≡ true → (j : ℕ) → j < table_rows → (j ≡ at → ⊥) → columns_of (cleared_rows rows at c) j c ≡ false
  unfolding xor
  cleared-gone own j below other =
      ⊎_elim
      (λ has.
      ap (λ (r : Row). has_place r.mask c) (cleared-combined j below other has)
      ∙ mask-combined (row_at rows j) (row_at rows at) c
      ∙ ap₂ xor has own)
      (λ has-not. ap (λ (r : Row). has_place r.mask c) (cleared-without j below has-not) ∙ has-not)
      (true-or-false (columns_of rows j c))

  -- a column that the kept row has not stays as it was in every row
  pub cleared-stays : at < table_rows → (p : ℕ) → columns_of rows at p ≡ false → (j : ℕ) → j < table_rows
      → columns_of (cleared_rows rows at c) j p ≡ columns_of rows j p
  cleared-stays small p none j below =
      ⊎_elim
      (λ same.
      ap (λ (k : ℕ). columns_of (cleared_rows rows at c) k p) same
      ∙ ap (λ (r : Row). has_place r.mask p) (cleared-own small)
      ∙ ap (λ (k : ℕ). columns_of rows k p) (sym same))
      (λ other.
      ⊎_elim
      (λ has.
      ap (λ (r : Row). has_place r.mask p) (cleared-combined j below other has)
      ∙ mask-combined (row_at rows j) (row_at rows at) p
      ∙ ap (xor (columns_of rows j p)) none
      ∙ xor-false (columns_of rows j p))
      (λ has-not. ap (λ (r : Row). has_place r.mask p) (cleared-without j below has-not))
      (true-or-false (columns_of rows j c)))
      (same_or_not j at)

  pub same-cleared : at < table_rows → (asked values : ℕ → ℕ) → AllHold asked values rows ↔ AllHold asked values (cleared_rows rows at c)
  same-cleared small asked values = (there, back)
    where
      there : AllHold asked values rows → AllHold asked values (cleared_rows rows at c)
      there all j below =
          ⊎_elim
          (λ same.
          subst (λ (k : ℕ). RowHolds asked values (row_at (cleared_rows rows at c) k)) (sym same)
          (subst (RowHolds asked values) (sym (cleared-own small)) (all at small)))
          (λ other.
          ⊎_elim
          (λ has.
          subst (RowHolds asked values) (sym (cleared-combined j below other has))
          (holds-combined asked values (row_at rows j) (row_at rows at) (all j below) (all at small)))
          (λ has-not. subst (RowHolds asked values) (sym (cleared-without j below has-not)) (all j below))
          (true-or-false (columns_of rows j c)))
          (same_or_not j at)

      back : AllHold asked values (cleared_rows rows at c) → AllHold asked values rows
      back all j below =
          let own : RowHolds asked values (row_at rows at) = subst (RowHolds asked values) (cleared-own small) (all at small) in
          ⊎_elim
          (λ same. subst (λ (k : ℕ). RowHolds asked values (row_at rows k)) (sym same) own)
          (λ other.
          ⊎_elim
          (λ has.
          holds-parted asked values (row_at rows j) (row_at rows at)
          (subst (RowHolds asked values) (cleared-combined j below other has) (all j below)) own)
          (λ has-not. subst (RowHolds asked values) (cleared-without j below has-not) (all j below))
          (true-or-false (columns_of rows j c)))
          (same_or_not j at)

  pub length-cleared : length (cleared_rows rows at c) ≡ table_rows
  unfolding cleared_rows
  length-cleared = length-tab table_rows (λ k. cleared_row (row_at rows k) (row_at rows at) c (eqb k at))
