-- Two rows swapped: each row stands at another place, and the same values satisfy the table. Assumes nothing.
use Prim.Native.Nat.{ℕ, ◌<◌}
use mathlib.Core.Path.{◌≡◌, refl, sym, ap, ◌∙◌, subst}
use mathlib.Core.Logic.{◌⊎◌, inl, inr, ⊎_elim, ◌↔◌}
use mathlib.Core.List.{List}
use lib.ListN.{length, set, length-set}
use lib.Seq.{get_or-set_same, get_or-set_other}
use Rattle.octets.proofs.Laws.{same_or_not}
use Rattle.solve_algebra.specs.Rows.{table_rows, no_row, row_at, RowHolds, AllHold}
use Rattle.solve_algebra.specs.Eliminated.{swapped_rows}
use Rattle.solve_algebra.specs.declared.Row.{Row}

module _ (rows : List Row) (a b : ℕ) (long : length rows ≡ table_rows) (ha : a < table_rows) (hb : b < table_rows) where
  pub swapped-second : row_at (swapped_rows rows a b) b ≡ row_at rows a
  unfolding swapped_rows
  swapped-second =
      get_or-set_same (set rows a (row_at rows b)) b (row_at rows a) no_row (rw (length-set rows a (row_at rows b) ∙ long) hb)

  swapped-first : row_at (swapped_rows rows a b) a ≡ row_at rows b
  unfolding swapped_rows
  swapped-first =
      ⊎_elim
      (λ same.
      ap (λ (j : ℕ). row_at (set (set rows a (row_at rows b)) b (row_at rows a)) j) same
      ∙ get_or-set_same (set rows a (row_at rows b)) b (row_at rows a) no_row (rw (length-set rows a (row_at rows b) ∙ long) hb)
      ∙ ap (row_at rows) same)
      (λ other.
      get_or-set_other (set rows a (row_at rows b)) b a (row_at rows a) no_row other
      ∙ get_or-set_same rows a (row_at rows b) no_row (rw long ha))
      (same_or_not a b)

  pub swapped_other : (j : ℕ) → (j ≡ a → ⊥) → (j ≡ b → ⊥) → row_at (swapped_rows rows a b) j ≡ row_at rows j
  unfolding swapped_rows
  swapped_other j na nb =
      get_or-set_other (set rows a (row_at rows b)) b j (row_at rows a) no_row nb ∙ get_or-set_other rows a j (row_at rows b) no_row na

  pub length-swapped : length (swapped_rows rows a b) ≡ table_rows
  unfolding swapped_rows
  length-swapped = length-set (set rows a (row_at rows b)) b (row_at rows a) ∙ length-set rows a (row_at rows b) ∙ long

  -- the row that stands at place j afterwards stood at `place`, and the other way round
  pub record Stood (j : ℕ) : Type 0 where
    pub place : ℕ
    pub inside : place < table_rows
    pub row : row_at (swapped_rows rows a b) j ≡ row_at rows place
    pub back : row_at (swapped_rows rows a b) place ≡ row_at rows j
    pub moved : ((j ≡ a) × (place ≡ b)) ⊎ (((j ≡ b) × (place ≡ a)) ⊎ (place ≡ j))

  pub stood : (j : ℕ) → j < table_rows → Stood j
  stood j below =
      ⊎_elim
      (λ at_a.
      record {
        place = b;
        inside = hb;
        row = ap (row_at (swapped_rows rows a b)) at_a ∙ swapped-first;
        back = swapped-second ∙ ap (row_at rows) (sym at_a);
        moved = inl (at_a, refl);
      })
      (λ not_a.
      ⊎_elim
      (λ at_b.
      record {
        place = a;
        inside = ha;
        row = ap (row_at (swapped_rows rows a b)) at_b ∙ swapped-second;
        back = swapped-first ∙ ap (row_at rows) (sym at_b);
        moved = inr (inl (at_b, refl));
      })
      (λ not-b.
      record {
        place = j;
        inside = below;
        row = swapped_other j not_a not-b;
        back = swapped_other j not_a not-b;
        moved = inr (inr refl);
      })
      (same_or_not j b))
      (same_or_not j a)

  pub same-swapped : (asked values : ℕ → ℕ) → AllHold asked values rows ↔ AllHold asked values (swapped_rows rows a b)
  same-swapped asked values = (
    λ all j below. let s = stood j below in subst (RowHolds asked values) (sym s.row) (all s.place s.inside),
    λ all j below. let s = stood j below in subst (RowHolds asked values) s.back (all s.place s.inside),
  )
