-- The numbers after the first n rows, row by row, as a loop fills them: a row fills the number that it has alone if that is still
-- unknown. Assumes nothing.
use Prim.Native.Nat.{ℕ, ◌+◌, ◌≤◌, ◌<◌}
use mathlib.Core.Path.{◌≡◌, refl, sym, ap, ◌∙◌}
use mathlib.Core.Logic.{⊎_elim}
use mathlib.Core.Bool.{Bool, true, false, cond, ◌&&◌, false≢true}
use mathlib.Core.List.{List}
use lib.ListN.{length, set, length-set}
use lib.Seq.{ext_get_or, get_or-set_same, get_or-set_other}
use lib.Dec.{ltb}
use borrow.Author.Tests.{lt-ltb, le-ltb}
use native.Mathlib.Omega.{arith}
use Rattle.octets.specs.Place.{tab}
use Rattle.octets.proofs.Laws.{tab-at, length-tab, below_or_not, same_or_not, true-or-false, and_both}
use Rattle.solve_algebra.specs.Systems.{Alone, alone_row}
use Rattle.solve_algebra.proofs.LinearLaws.{alone-found, alone-no-later}
use Rattle.solve_algebra.specs.Masks.{has_place, lone_place}
use Rattle.solve_algebra.proofs.MasksLaws.{lone-exact, lone_is}
use Rattle.solve_algebra.specs.Rows.{table_rows, columns, row_at, columns_of}
use Rattle.solve_algebra.specs.declared.Row.{Row}
use Rattle.session.specs.Cells.{Cell, blank_cell, repaired, filled_cell, is_unknown, cell_at, unknown_at, kept_numbers}
use Rattle.session.specs.Held.{Held}
use Rattle.session.specs.Offer.{keep}
use Rattle.session.proofs.Laws.{unknown-inside}
use Rattle.solve.specs.Table.{row_octets}
use Rattle.solve.specs.Solve.{cell_after, cells_after}

module _ (cells : List Cell) (held : List Held) (rows : List Row) where
  abbrev lonely : ℕ → ℕ
  lonely p = alone_row columns table_rows (columns_of rows) p

  -- what a row fills its number with
  abbrev pub fill_of : ℕ → Cell
  fill_of i = filled_cell 0 repaired (row_octets cells held (row_at rows i))

  abbrev pub after : ℕ → List Cell
  after n = cells_after cells held rows n

  length-after : (n : ℕ) → length (after n) ≡ kept_numbers
  unfolding cells_after
  length-after n = length-tab kept_numbers (cell_after cells held rows n)

  after-at : (n p : ℕ) → p < kept_numbers → cell_at (after n) p ≡ cell_after cells held rows n p
  unfolding cells_after
  after-at n p small = tab-at kept_numbers (cell_after cells held rows n) p blank_cell small

  picked : (n p : ℕ) (t : Bool) → (unknown_at cells p && ltb (lonely p) n) ≡ t
      → cell_after cells held rows n p ≡ cond t (fill_of (lonely p)) (cell_at cells p)
  unfolding cell_after
  picked n p t e = ap (λ (b : Bool). cond b (fill_of (lonely p)) (cell_at cells p)) e

  -- filled already, known before, or not yet filled
  filled-by : (n p : ℕ) → unknown_at cells p ≡ true → lonely p < n → cell_after cells held rows n p ≡ fill_of (lonely p)
  filled-by n p unknown early = picked n p true (and_both unknown (lt-ltb (lonely p) n early))

  known_as : (n p : ℕ) → unknown_at cells p ≡ false → cell_after cells held rows n p ≡ cell_at cells p
  known_as n p known = picked n p false (ap (λ (t : Bool). t && ltb (lonely p) n) known)

  not_yet : (n p : ℕ) → n ≤ lonely p → cell_after cells held rows n p ≡ cell_at cells p
  not_yet n p late = picked n p false (none (unknown_at cells p) (le-ltb (lonely p) n late))
    where
      none : (u : Bool) {t : Bool} → t ≡ false → (u && t) ≡ false
      none true e = e
      none false e = refl

  -- ---- no row yet
  pub after_none : length cells ≡ kept_numbers → after 0 ≡ cells
  after_none long =
      ext_get_or blank_cell (after 0) cells (length-after 0 ∙ sym long)
      (λ p below. after-at 0 p (omega (arith, length-after 0)) ∙ not_yet 0 p (omega arith))

  -- ---- one row more
  module _ (n : ℕ) (inside : n < table_rows) where
    abbrev place : ℕ
    place = lone_place (row_at rows n).mask

    -- a number that this row is not the first to have alone stays
    other-stays : (p : ℕ) → (lonely p ≡ n → ⊥) → cell_after cells held rows (n + 1) p ≡ cell_after cells held rows n p
    other-stays p other =
        ⊎_elim
        (λ early.
        ⊎_elim (λ unknown. filled-by (n + 1) p unknown (omega arith) ∙ sym (filled-by n p unknown early))
        (λ known. known_as (n + 1) p known ∙ sym (known_as n p known))
        (true-or-false (unknown_at cells p)))
        (λ late. not_yet (n + 1) p (omega arith) ∙ sym (not_yet n p late))
        (below_or_not (lonely p) n)

    -- the number that it is the first to have alone is its place
    its-place : (p : ℕ) → p < columns → lonely p ≡ n → place ≡ p
    its-place p small e =
        lone_is (row_at rows n).mask p small
        (rw e at (alone-found columns table_rows (columns_of rows) p (omega arith)))

    -- where its place is still unknown, it is the first to have it alone
    still : unknown_at (after n) place ≡ true → (unknown_at cells place ≡ true) × (lonely place ≡ n)
    still unknown =
        let small : place < kept_numbers = omega (arith, unknown-inside (after n) place unknown, length-after n) in
        let alone : Alone columns (columns_of rows n) place = lone-exact (row_at rows n).mask place small refl in
        let least = alone-no-later columns table_rows (columns_of rows) place n alone in
        let now : is_unknown (cell_after cells held rows n place).state ≡ true =
        ap (λ (c : Cell). is_unknown c.state) (sym (after-at n place small)) ∙ unknown in
        ⊎_elim
        (λ was. (
          was,
          ⊎_elim (λ early. absurd (false≢true (ap (λ (c : Cell). is_unknown c.state) (sym (filled-by n place was early)) ∙ now)))
              (λ late. omega arith)
              (below_or_not (lonely place) n),
        ))
        (λ known.
        absurd
        (false≢true (sym known ∙ ap (λ (c : Cell). is_unknown c.state) (sym (known_as n place known)) ∙ now)))
        (true-or-false (unknown_at cells place))

    -- it is filled
    turn-fills : unknown_at (after n) place ≡ true → set (after n) place (fill_of n) ≡ after (n + 1)
    turn-fills unknown =
        let there = unknown-inside (after n) place unknown in
        let first = still unknown in
        ext_get_or blank_cell (set (after n) place (fill_of n)) (after (n + 1))
        (length-set (after n) place (fill_of n) ∙ length-after n ∙ sym (length-after (n + 1)))
        (λ p below.
        let small : p < kept_numbers = omega (arith, length-set (after n) place (fill_of n), length-after n) in
        ⊎_elim
        (λ (same : p ≡ place).
        ap (cell_at (set (after n) place (fill_of n))) same
        ∙ get_or-set_same (after n) place (fill_of n) blank_cell there
        ∙ ap fill_of (sym first.1)
        ∙ sym (filled-by (n + 1) place first.0 (omega (arith, first.1)))
        ∙ sym (ap (cell_after cells held rows (n + 1)) same)
        ∙ sym (after-at (n + 1) p small))
        (λ other.
        get_or-set_other (after n) place p (fill_of n) blank_cell other
        ∙ after-at n p small
        ∙ sym (other-stays p (λ e. other (sym (its-place p small e))))
        ∙ sym (after-at (n + 1) p small))
        (same_or_not p place))

    -- or there is nothing to fill
    turn-stays : unknown_at (after n) place ≡ false → after n ≡ after (n + 1)
    turn-stays known =
        ext_get_or blank_cell (after n) (after (n + 1)) (length-after n ∙ sym (length-after (n + 1)))
        (λ p below.
        let small : p < kept_numbers = omega (arith, length-after n) in
        after-at n p small
        ∙ ⊎_elim
        (λ first. not_yet n p (omega arith) ∙ sym (known_as (n + 1) p (was p small first)))
        (λ other. sym (other-stays p other))
        (same_or_not (lonely p) n)
        ∙ sym (after-at (n + 1) p small))
      where
        was : (p : ℕ) → p < kept_numbers → lonely p ≡ n → unknown_at cells p ≡ false
        was p small first =
            ap (λ (c : Cell). is_unknown c.state) (sym (not_yet n p (omega arith)) ∙ sym (after-at n p small))
            ∙ ap (unknown_at (after n)) (sym (its-place p small first))
            ∙ known

    pub after_turn : keep 0 repaired place (row_octets cells held (row_at rows n)) (after n) ≡ after (n + 1)
    unfolding keep
    after_turn =
        ⊎_elim
        (λ unknown.
        ap (λ (t : Bool). cond t (set (after n) place (fill_of n)) (after n)) unknown ∙ turn-fills unknown)
        (λ known. ap (λ (t : Bool). cond t (set (after n) place (fill_of n)) (after n)) known ∙ turn-stays known)
        (true-or-false (unknown_at (after n) place))
