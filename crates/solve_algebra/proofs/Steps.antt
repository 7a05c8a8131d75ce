-- What elimination keeps true, column by column: the same values satisfy the table as at the start; each of the used rows has a column of
-- its own; the others have none of the columns passed. So at the end the table is reduced. Assumes nothing.
use Prim.Native.Nat.{ℕ, zero, suc, ◌+◌, ◌≤◌, ◌<◌}
use mathlib.Core.Path.{◌≡◌, refl, sym, ap, ◌∙◌}
use mathlib.Core.Logic.{◌⊎◌, inl, inr, ⊎_elim, ◌↔◌}
use mathlib.Core.Bool.{Bool, true, false, cond}
use mathlib.Core.List.{List}
use lib.ListN.{length}
use lib.Dec.{ltb}
use borrow.Author.Tests.{ltb-true, ltb-false}
use native.Mathlib.Omega.{arith}
use Rattle.octets.proofs.Laws.{below_or_not, same_or_not}
use Rattle.solve_algebra.specs.Systems.{Owns, Reduced}
use Rattle.solve_algebra.specs.Masks.{has_place}
use Rattle.solve_algebra.specs.Rows.{table_rows, columns, columns_of, AllHold}
use Rattle.solve_algebra.specs.Eliminated.{pivot_in, swapped_rows, cleared_rows, eliminated_f, eliminated}
use Rattle.solve_algebra.specs.declared.Row.{Row}
use Rattle.solve_algebra.proofs.Pivots.{pivot-low, pivot-has, pivot-before}
use Rattle.solve_algebra.proofs.Swapping.{swapped-second, swapped_other, length-swapped, stood, same-swapped}
use Rattle.solve_algebra.proofs.Clearing.{cleared-own, cleared-gone, cleared-stays, same-cleared, length-cleared}

-- `rank` rows are used, and the columns before `next` are passed
pub record Underway (rows table : List Row) (rank next : ℕ) : Type 0 where
  pub long : length table ≡ table_rows
  pub few : rank ≤ table_rows
  pub same : (asked values : ℕ → ℕ) → AllHold asked values rows ↔ AllHold asked values table
  pub own : (i : ℕ) → i < rank → (c : ℕ) × Owns columns table_rows (columns_of table) i c
  pub clear : (i : ℕ) → rank ≤ i → i < table_rows → (c : ℕ) → c < next → columns_of table i c ≡ false

-- ---- the pivot's row comes to the place `rank`
swapped-keeps : (rows table : List Row) (rank next at : ℕ) → Underway rows table rank next → rank ≤ at → at < table_rows
    → Underway rows (swapped_rows table at rank) rank next
swapped-keeps rows table rank next at s low high =
    record {
      long = length-swapped table at rank s.long high inside;
      few = s.few;
      same = λ asked values.
          let step = same-swapped table at rank s.long high inside asked values in
          (λ all. step.0 ((s.same asked values).0 all), λ all. (s.same asked values).1 (step.1 all));
      own = own;
      clear = clear;
    }
  where
    inside : rank < table_rows
    inside = omega arith

    own : (i : ℕ) → i < rank → (c : ℕ) × Owns columns table_rows (columns_of (swapped_rows table at rank)) i c
    own i below =
        let t = s.own i below in (
          t.0,
          record {
            inside = t.1.inside;
            alone = record {
              has =
                  ap (λ (r : Row). has_place r.mask t.0) (swapped_other table at rank s.long high inside i (omega arith) (omega arith))
                  ∙ t.1.alone.has;
              others = λ j small other.
                  let st = stood table at rank s.long high inside j small in
                  ap (λ (r : Row). has_place r.mask t.0) st.row
                  ∙ t.1.alone.others st.place st.inside (apart j other st.place st.moved);
            };
          },
        )
      where
        apart : (j : ℕ) → (j ≡ i → ⊥) → (place : ℕ) → ((j ≡ at) × (place ≡ rank)) ⊎ (((j ≡ rank) × (place ≡ at)) ⊎ (place ≡ j))
            → place ≡ i → ⊥
        apart j other place (inl h) e = let f = h.1 in omega arith
        apart j other place (inr (inl h)) e = let f = h.1 in omega arith
        apart j other place (inr (inr h)) e = other (sym h ∙ e)

    clear : (i : ℕ) → rank ≤ i → i < table_rows → (c : ℕ) → c < next → columns_of (swapped_rows table at rank) i c ≡ false
    clear i least below c passed =
        let st = stood table at rank s.long high inside i below in
        ap (λ (r : Row). has_place r.mask c) st.row
        ∙ s.clear st.place (later st.place st.moved) st.inside c passed
      where
        later : (place : ℕ) → ((i ≡ at) × (place ≡ rank)) ⊎ (((i ≡ rank) × (place ≡ at)) ⊎ (place ≡ i)) → rank ≤ place
        later place (inl h) = let f = h.1 in omega arith
        later place (inr (inl h)) = let f = h.1 in omega arith
        later place (inr (inr h)) = omega arith

-- ---- its column is taken out of every other row, and is its own
cleared-keeps : (rows table : List Row) (rank next : ℕ) → Underway rows table rank next → rank < table_rows → next < columns
    → columns_of table rank next ≡ true → Underway rows (cleared_rows table rank next) (rank + 1) (next + 1)
cleared-keeps rows table rank next s inside column has =
    record {
      long = length-cleared table rank next;
      few = omega arith;
      same = λ asked values.
          let step = same-cleared table rank next inside asked values in
          (λ all. step.0 ((s.same asked values).0 all), λ all. (s.same asked values).1 (step.1 all));
      own = λ i below. ⊎_elim (λ same. (next, fresh i same)) (λ other. older i (omega arith)) (same_or_not i rank);
      clear = clear;
    }
  where
    fresh : (i : ℕ) → i ≡ rank → Owns columns table_rows (columns_of (cleared_rows table rank next)) i next
    fresh i same =
        record {
          inside = column;
          alone = record {
            has =
                ap (λ (k : ℕ). columns_of (cleared_rows table rank next) k next) same
                ∙ ap (λ (r : Row). has_place r.mask next) (cleared-own table rank next inside)
                ∙ has;
            others = λ j below other. cleared-gone table rank next has j below (λ e. other (e ∙ sym same));
          };
        }

    older : (i : ℕ) → i < rank → (c : ℕ) × Owns columns table_rows (columns_of (cleared_rows table rank next)) i c
    older i below =
        let t = s.own i below in
        let none : columns_of table rank t.0 ≡ false = t.1.alone.others rank inside (omega arith) in (
          t.0,
          record {
            inside = t.1.inside;
            alone = record {
              has = cleared-stays table rank next inside t.0 none i (omega arith) ∙ t.1.alone.has;
              others = λ j small other. cleared-stays table rank next inside t.0 none j small ∙ t.1.alone.others j small other;
            };
          },
        )

    clear : (i : ℕ) → rank + 1 ≤ i → i < table_rows → (c : ℕ) → c < next + 1 → columns_of (cleared_rows table rank next) i c ≡ false
    clear i least below c passed =
        ⊎_elim
        (λ same.
        ap (columns_of (cleared_rows table rank next) i) same ∙ cleared-gone table rank next has i below (omega arith))
        (λ other.
        cleared-stays table rank next inside c (s.clear rank (omega arith) inside c (omega arith)) i below
        ∙ s.clear i (omega arith) below c (omega arith))
        (same_or_not c next)

-- ---- a column more
underway-turn : {rows table : List Row} {rank next : ℕ} → Underway rows table rank next → next < columns
    → pivot_in table rank next < table_rows
    → Underway rows (cleared_rows (swapped_rows table (pivot_in table rank next) rank) rank next) (rank + 1) (next + 1)
underway-turn {rows} {table} {rank} {next} s column inside =
    let low = pivot-low table rank next s.few in
    let small : rank < table_rows = omega arith in
    cleared-keeps rows (swapped_rows table (pivot_in table rank next) rank) rank next
    (swapped-keeps rows table rank next (pivot_in table rank next) s low inside) small column
    (ap (λ (r : Row). has_place r.mask next) (swapped-second table (pivot_in table rank next) rank s.long inside small)
    ∙ pivot-has table rank next inside)

underway-none : {rows table : List Row} {rank next : ℕ} → Underway rows table rank next → table_rows ≤ pivot_in table rank next
    → Underway rows table rank (next + 1)
underway-none {rows} {table} {rank} {next} s past =
    record {
      long = s.long;
      few = s.few;
      same = s.same;
      own = s.own;
      clear = λ i least below c passed.
          ⊎_elim (λ same. ap (columns_of table i) same ∙ pivot-before table rank next i least (omega arith))
          (λ other. s.clear i least below c (omega arith))
          (same_or_not c next);
    }

-- ---- all columns
underway-start : (rows : List Row) → length rows ≡ table_rows → Underway rows rows 0 0
underway-start rows long =
    record {
      long = long;
      few = omega arith;
      same = λ asked values. (λ all. all, λ all. all);
      own = λ i below. absurd (omega arith);
      clear = λ i least below c passed. absurd (omega arith);
    }

-- what is true at the end
pub record Done (rows after : List Row) : Type 0 where
  pub long : length after ≡ table_rows
  pub same : (asked values : ℕ → ℕ) → AllHold asked values rows ↔ AllHold asked values after
  pub reduced : Reduced columns table_rows (columns_of after)

underway-done : {rows table : List Row} {rank next : ℕ} → Underway rows table rank next → columns ≤ next → Done rows table
underway-done {rows} {table} {rank} {next} s all =
    record {
      long = s.long;
      same = s.same;
      reduced = λ i below.
          ⊎_elim (λ low. inr (s.own i low)) (λ high. inl (λ c inside. s.clear i high below c (omega arith))) (below_or_not i rank);
    }

eliminated_f-done : (rows : List Row) (n rank c : ℕ) (table : List Row) → n + c ≡ columns → Underway rows table rank c
    → Done rows (eliminated_f n rank c table)
unfolding eliminated_f
eliminated_f-done rows zero rank c table all s = underway-done s (omega arith)
eliminated_f-done rows (suc n) rank c table all s =
    step (ltb (pivot_in table rank c) table_rows) refl
    (λ inside.
    eliminated_f-done rows n (rank + 1) (c + 1) (cleared_rows (swapped_rows table (pivot_in table rank c) rank) rank c) (omega arith)
    (underway-turn s (omega arith) inside))
    (λ past. eliminated_f-done rows n rank (c + 1) table (omega arith) (underway-none s past))
  where
    turned : List Row
    turned = eliminated_f n (rank + 1) (c + 1) (cleared_rows (swapped_rows table (pivot_in table rank c) rank) rank c)

    step : (t : Bool) → ltb (pivot_in table rank c) table_rows ≡ t → (pivot_in table rank c < table_rows → Done rows turned)
        → (table_rows ≤ pivot_in table rank c → Done rows (eliminated_f n rank (c + 1) table))
        → Done rows (cond t turned (eliminated_f n rank (c + 1) table))
    step true h there past = there (ltb-true _ _ h)
    step false h there past = past (ltb-false _ _ h)

pub eliminated-done : (rows : List Row) → length rows ≡ table_rows → Done rows (eliminated rows)
unfolding eliminated
eliminated-done rows long = eliminated_f-done rows columns 0 0 rows (omega arith) (underway-start rows long)
