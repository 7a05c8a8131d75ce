-- What the functions over rows and the two loops that change the table do, on plain values. Assumes nothing.
use Prim.Native.Nat.{ℕ, suc, ◌+◌, ◌-◌, ◌≤◌, ◌<◌}
use mathlib.Core.Path.{◌≡◌, refl, sym, ap, ◌∙◌}
use mathlib.Core.Logic.{⊎_elim}
use mathlib.Core.Bool.{Bool, true, false, cond}
use mathlib.Core.List.{List, map}
use lib.ListN.{length, set, length-set, length-map}
use lib.Seq.{get_or-set_same, get_or-set_other, ext_get_or}
use lib.Bits.{bit_xor}
use lib.Dec.{eqb, ltb}
use borrow.Author.Tests.{lt-ltb, le-ltb}
use native.Mathlib.Omega.{arith}
use Rattle.std.specs.List.{swap}
use Rattle.std.proofs.lemmas.List.Edits.{swap_is}
use Rattle.octets.specs.Place.{tab}
use Rattle.octets.proofs.Laws.{tab-at, length-tab, same_or_not}
use Rattle.solve_algebra.specs.Masks.{has_place}
use Rattle.solve_algebra.specs.MasksPromise.{HasTold}
use Rattle.solve_algebra.specs.Rows.{table_rows, columns, no_row, row_at}
use Rattle.solve_algebra.specs.Eliminated.{combined_row, pivot_in, swapped_rows, cleared_row, cleared_rows, eliminated_f, eliminated}
use Rattle.solve_algebra.specs.Promise.{RowsCombined, PivotFound, RowsSwapped, RowCleared, ColumnCleared, Eliminates}
use Rattle.solve_algebra.specs.declared.Row.{Row}
use Rattle.solve_algebra.proofs.Pivots.{pivot-low}
use Rattle.solve_algebra.proofs.Clearing.{length-cleared}

-- the length of an array by value
pub mapped-long : {A B : Type 0} (f : A → B) (l : List A) (n : ℕ) → length (map f l) ≡ n → length l ≡ n
mapped-long f l n long = sym (length-map l f) ∙ long

-- ---- two rows combined, and two swapped
pub combines : (a b : Row)
    → RowsCombined a b (record { mask = bit_xor a.mask b.mask; low = bit_xor a.low b.low; high = bit_xor a.high b.high })
unfolding combined_row
combines a b = record { answer = refl }

pub swaps : (rows : List Row) (a b : ℕ) {new : List Row} → a < length rows → b < length rows → new ≡ swap rows a b → RowsSwapped rows a b new
unfolding swapped_rows
swaps rows a b inside_a inside_b e = record { answer = e ∙ sym (swap_is rows a b no_row inside_a inside_b) }

-- the same rows, put there one by one
pub swaps_set : (rows : List Row) (a b : ℕ) → RowsSwapped rows a b (set (set rows a (row_at rows b)) b (row_at rows a))
unfolding swapped_rows
swaps_set rows a b = record { answer = refl }

-- ---- a row with a column taken out
pub clear_kept : (row own : Row) (c : ℕ) {keeps : Bool} → keeps ≡ true → RowCleared row own c keeps row
unfolding cleared_row
clear_kept row own c e = rw e (record { answer = refl })

pub clear-combined : {row own sum : Row} {c : ℕ} {keeps there : Bool} → keeps ≡ false → HasTold row.mask c there → there ≡ true
    → RowsCombined row own sum → RowCleared row own c keeps sum
unfolding cleared_row
clear-combined {row} {own} {sum} {c} e told has made =
    record {
      answer =
          made.answer
          ∙ sym
          (ap (λ (t : Bool). cond t row (cond (has_place row.mask c) (combined_row row own) row)) e
          ∙ ap (λ (t : Bool). cond t (combined_row row own) row) (sym told.answer ∙ has));
    }

pub clear-other : (own : Row) {row : Row} {c : ℕ} {keeps there : Bool} → keeps ≡ false → HasTold row.mask c there → there ≡ false
    → RowCleared row own c keeps row
unfolding cleared_row
clear-other own {row} {c} e told has =
    record {
      answer =
          sym
          (ap (λ (t : Bool). cond t row (cond (has_place row.mask c) (combined_row row own) row)) e
          ∙ ap (λ (t : Bool). cond t (combined_row row own) row) (sym told.answer ∙ has));
    }

pub ruleset clears = (clear_kept, clear-combined, clear-other)

-- ---- the loop that takes a column out: the first i rows are cleared
pub record Clearing (rows : List Row) (at c : ℕ) (next : List Row) (i : ℕ) : Type 0 where
  pub long : length next ≡ table_rows
  pub few : i ≤ table_rows
  pub each : (k : ℕ) → k < i → row_at next k ≡ cleared_row (row_at rows k) (row_at rows at) c (eqb k at)

pub clearing-start : (rows : List Row) (at c : ℕ) → length rows ≡ table_rows → Clearing rows at c rows 0
clearing-start rows at c long = record { long = long; few = omega arith; each = λ k below. absurd (omega arith) }

pub clearing-turn : {rows : List Row} {at c : ℕ} {next : List Row} {i : ℕ} {clear : Row} → Clearing rows at c next i → i < table_rows
    → RowCleared (row_at rows i) (row_at rows at) c (eqb i at) clear → Clearing rows at c (set next i clear) (i + 1)
clearing-turn {rows} {at} {c} {next} {i} {clear} s more cleared =
    record {
      long = length-set next i clear ∙ s.long;
      few = omega arith;
      each = λ k below.
          ⊎_elim (λ same. rw same (get_or-set_same next i clear no_row (rw s.long more) ∙ cleared.answer))
          (λ other. get_or-set_other next i k clear no_row other ∙ s.each k (omega arith))
          (same_or_not k i);
    }

pub clearing-done : {rows : List Row} {at c : ℕ} {next : List Row} {i : ℕ} → Clearing rows at c next i → table_rows ≤ i
    → ColumnCleared rows at c next
unfolding cleared_rows
clearing-done {rows} {at} {c} {next} s all =
    let each : ℕ → Row = λ k. cleared_row (row_at rows k) (row_at rows at) c (eqb k at) in
    record {
      answer =
          ext_get_or no_row next (tab table_rows each) (s.long ∙ sym (length-tab table_rows each))
          (λ k below.
          let small : k < table_rows = omega (arith, s.long) in
          s.each k (omega arith) ∙ sym (tab-at table_rows each k no_row small));
    }

-- ---- the loop over the columns: what is left to eliminate, done to the table now, gives the whole
pub record Reducing (rows table : List Row) (rank next : ℕ) : Type 0 where
  pub long : length table ≡ table_rows
  pub few : rank ≤ table_rows
  pub most : next ≤ columns
  pub left : eliminated_f (columns - next) rank next table ≡ eliminated rows

pub reducing-start : (rows : List Row) → length rows ≡ table_rows → Reducing rows rows 0 0
unfolding eliminated
reducing-start rows long = record { long = long; few = omega arith; most = omega arith; left = refl }

-- the row that comes up stands at a place of the table
pub rank-inside : {rows table : List Row} {rank next c at : ℕ} → Reducing rows table rank next → PivotFound table rank c at
    → at < table_rows → rank < table_rows
rank-inside {rows} {table} {rank} {next} {c} s found inside = omega (arith, found.answer, pivot-low table rank c s.few)

-- one column more to eliminate
eliminated-more : (rank next : ℕ) (table : List Row) → next < columns
    → eliminated_f (columns - next) rank next table
    ≡ cond (ltb (pivot_in table rank next) table_rows)
    (eliminated_f (columns - (next + 1)) (rank + 1) (next + 1)
    (cleared_rows (swapped_rows table (pivot_in table rank next) rank) rank next))
    (eliminated_f (columns - (next + 1)) rank (next + 1) table)
unfolding eliminated_f
eliminated-more rank next table more =
    let e : columns - next ≡ suc (columns - (next + 1)) = omega arith in
    ap (λ (k : ℕ). eliminated_f k rank next table) e

pub reducing-turn : {rows table turned clear : List Row} {rank next at : ℕ} → Reducing rows table rank next → next < columns
    → PivotFound table rank next at → at < table_rows → RowsSwapped table at rank turned → ColumnCleared turned rank next clear
    → Reducing rows clear (rank + 1) (next + 1)
reducing-turn {rows} {table} {turned} {clear} {rank} {next} {at} s more found inside swap cleared =
    let small = rank-inside s found inside in
    let same : clear ≡ cleared_rows (swapped_rows table (pivot_in table rank next) rank) rank next =
    cleared.answer
    ∙ ap (λ (t : List Row). cleared_rows t rank next)
    (swap.answer ∙ ap (λ (k : ℕ). swapped_rows table k rank) found.answer) in
    record {
      long = rw same (length-cleared (swapped_rows table (pivot_in table rank next) rank) rank next);
      few = omega arith;
      most = omega arith;
      left =
          ap (eliminated_f (columns - (next + 1)) (rank + 1) (next + 1)) same
          ∙ sym
          (eliminated-more rank next table more
          ∙ ap
          (λ (t : Bool).
          cond t
          (eliminated_f (columns - (next + 1)) (rank + 1) (next + 1)
          (cleared_rows (swapped_rows table (pivot_in table rank next) rank) rank next))
          (eliminated_f (columns - (next + 1)) rank (next + 1) table))
          (lt-ltb (pivot_in table rank next) table_rows (rw (sym found.answer) inside)))
          ∙ s.left;
    }

pub reducing-none : {rows table : List Row} {rank next at : ℕ} → Reducing rows table rank next → next < columns
    → PivotFound table rank next at → table_rows ≤ at → Reducing rows table rank (next + 1)
reducing-none {rows} {table} {rank} {next} s more found past =
    record {
      long = s.long;
      few = s.few;
      most = omega arith;
      left =
          sym
          (eliminated-more rank next table more
          ∙ ap
          (λ (t : Bool).
          cond t
          (eliminated_f (columns - (next + 1)) (rank + 1) (next + 1)
          (cleared_rows (swapped_rows table (pivot_in table rank next) rank) rank next))
          (eliminated_f (columns - (next + 1)) rank (next + 1) table))
          (le-ltb (pivot_in table rank next) table_rows (rw (sym found.answer) past)))
          ∙ s.left;
    }

pub reducing-done : {rows table : List Row} {rank next : ℕ} → Reducing rows table rank next → columns ≤ next → Eliminates rows table
unfolding eliminated_f
reducing-done {rows} {table} {rank} {next} s all =
    let e : columns - next ≡ 0 = omega arith in
    record { answer = sym (ap (λ (k : ℕ). eliminated_f k rank next table) e) ∙ s.left }
