-- Whether a row has columns or asks for nothing, and whether all do, on plain values. Assumes nothing.
use Rattle.std.proofs.Common.{◌≡◌, ℕ, ◌+◌, ◌*◌, ◌<◌, ◌≤◌, Bool, true, false, not, ◌&&◌, ◌||◌, eqb, ltb, List, length, get_or, sym, refl, ap, ◌∙◌, ap₂, ⊎_elim, arith, le-ltb}
use mathlib.Core.Bool.{false≢true}
use Rattle.octets.specs.Place.{all_below}
use Rattle.octets.proofs.Laws.{tab-at, length-tab, all_below-ext, all_below-more, true-or-false}
use Rattle.datagram.specs.Sizes.{packet_limit}
use Rattle.solve_algebra.specs.First.{first_passing}
use Rattle.solve_algebra.specs.Systems.{Empty, empty_test}
use Rattle.solve_algebra.proofs.LinearLaws.{first_passes, first-least, empty-says, empty_of}
use Rattle.solve_algebra.specs.Masks.{mask_places, has_place, first_place}
use Rattle.solve_algebra.specs.MasksPromise.{FirstFound}
use Rattle.solve_algebra.specs.Rows.{table_rows, columns, row_at}
use Rattle.solve_algebra.specs.declared.Row.{Row}
use Rattle.session_slots.specs.Store.{HasSlot, zeros_past}
use Rattle.solve_code.specs.Steps.{sum_at, row_sum, RowSummed, fits, RowTold, RowsTold}

-- ---- one row
pub row-columns : {all : List ℕ} {row : Row} {first_passing : ℕ} → FirstFound row.mask first_passing → first_passing < mask_places → RowTold all row true
unfolding fits first_place
row-columns {all} {row} {first_passing} found early =
    record {
      answer =
          ⊎_elim
          (λ empty.
          absurd
          (false≢true
          (sym (empty-says columns (has_place row.mask) empty (first_place row.mask) (rw found.answer at early))
          ∙ first_passes mask_places (has_place row.mask) (rw found.answer at early))))
          (λ some. sym (ap (λ (b : Bool). not b || all_below packet_limit (λ k. eqb (sum_at all row k) 0)) some))
          (true-or-false (empty_test columns (has_place row.mask)));
    }

-- the sum is one slot
pub sum-slot : {all sum : List ℕ} {row : Row} → RowSummed all row sum → HasSlot 0 sum
unfolding row_sum
sum-slot {all} {sum} {row} s =
    let long : length sum ≡ packet_limit = ap (λ (l : List ℕ). length l) s.answer ∙ length-tab packet_limit (sum_at all row) in
    omega arith

pub row-empty : {all sum : List ℕ} {row : Row} {first_passing : ℕ} {ok : Bool} → FirstFound row.mask first_passing → mask_places ≤ first_passing
    → RowSummed all row sum → ok ≡ zeros_past sum 0 0 → RowTold all row ok
unfolding fits first_place zeros_past row_sum
row-empty {all} {sum} {row} {first_passing} {ok} found late summed e =
    record {
      answer =
          e
          ∙ all_below-ext packet_limit (λ j. ltb j 0 || eqb (get_or sum (0 * packet_limit + j) 0) 0) (λ k. eqb (sum_at all row k) 0)
          (λ j small.
          ap (λ (b : Bool). b || eqb (get_or sum (0 * packet_limit + j) 0) 0) (le-ltb j 0 (omega arith))
          ∙ ap (λ (x : ℕ). eqb x 0)
          (ap (λ (n : ℕ). get_or sum n 0) {y = j} (omega arith)
          ∙ ap (λ (l : List ℕ). get_or l j 0) summed.answer
          ∙ tab-at packet_limit (sum_at all row) j 0 small))
          ∙ sym
          (ap (λ (b : Bool). not b || all_below packet_limit (λ k. eqb (sum_at all row k) 0)) (empty_of columns (has_place row.mask) empty));
    }
  where
    empty : Empty columns (has_place row.mask)
    empty c small =
        ⊎_elim (λ has. absurd (omega (arith, first-least mask_places (has_place row.mask) c has, found.answer))) (λ none. none)
        (true-or-false (has_place row.mask c))

-- ---- all rows: ok says whether those before i fit
pub record Checked (all : List ℕ) (rows : List Row) (ok : Bool) (i : ℕ) : Type 0 where
  pub so : ok ≡ all_below i (λ j. fits all (row_at rows j))
  pub few : i ≤ table_rows

pub checked-start : (all : List ℕ) (rows : List Row) → Checked all rows true 0
unfolding all_below
checked-start all rows = record { so = refl; few = omega arith }

pub checked-turn : {all : List ℕ} {rows : List Row} {ok right : Bool} {i : ℕ} → Checked all rows ok i → i < table_rows
    → RowTold all (row_at rows i) right → Checked all rows (ok && right) (i + 1)
checked-turn {all} {rows} {ok} {right} {i} c more told =
    record {
      so = ap₂ (λ (a b : Bool). a && b) c.so told.answer ∙ sym (all_below-more i (λ j. fits all (row_at rows j)));
      few = omega arith;
    }

pub checked-done : {all : List ℕ} {rows : List Row} {ok : Bool} {i : ℕ} → Checked all rows ok i → table_rows ≤ i → RowsTold all rows ok
checked-done {all} {rows} {ok} {i} c done =
    let whole : i ≡ table_rows = omega (arith, c.few) in
    record { answer = c.so ∙ ap (λ (n : ℕ). all_below n (λ j. fits all (row_at rows j))) whole }
