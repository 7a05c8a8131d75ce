-- The function comes to what the equations mean. Assumes nothing.
use Prim.Native.Nat.{ℕ, ◌≤◌, ◌<◌}
use mathlib.Core.Path.{◌≡◌, refl, sym, ap, ◌∙◌, subst}
use mathlib.Core.Logic.{⊎_elim}
use mathlib.Core.Bool.{Bool, true, false, not, cond, ◌&&◌, ◌||◌, false≢true}
use mathlib.Core.List.{List}
use lib.ListN.{length, get_or-eq_default}
use lib.Dec.{eqb, ltb}
use borrow.Author.Tests.{eqb-true, eq-eqb, lt-ltb, le-ltb}
use native.Mathlib.Omega.{arith}
use Rattle.octets.specs.Place.{tab, all_below}
use Rattle.octets.proofs.Laws.{tab-at, length-tab, all_below-at, all_below-of, below_or_not, true-or-false, and_both}
use Rattle.length.specs.Refusals.{no_solution}
use Rattle.length.specs.Answers.{Answer, done, refused, refuse}
use Rattle.datagram.specs.Sizes.{packet_limit}
use Rattle.solve_algebra.specs.Systems.{empty_test, HasAlone, Empty, alone_row}
use Rattle.solve_algebra.proofs.LinearLaws.{empty-says, empty_of, alone-found, alone-no-later}
use Rattle.solve_algebra.specs.Rows.{table_rows, columns, row_at, columns_of}
use Rattle.session.specs.Cells.{Cell, blank_cell, repaired, filled_cell, cell_at, unknown_at, kept_numbers}
use Rattle.session.specs.Held.{Held, held_messages}
use Rattle.session.specs.Repair.{Message}
use Rattle.session.specs.Reached.{Known, Unknown}
use Rattle.session.specs.View.{View}
use Rattle.session.specs.Ranges.{Sound}
use Rattle.session.proofs.Laws.{unknown-inside}
use Rattle.solve.specs.Equations.{Solution, Unsolvable, OneValue}
use Rattle.solve.specs.Solved.{Solved, SolvedTo, Solves}
use Rattle.solve.specs.Table.{equation_at, row_asks, row_octets}
use Rattle.solve.specs.Solve.{row_fits, all_fit, cell_after, cells_after, reduced_rows, with_cells, solve}
use Rattle.solve.proofs.Numbers.{Numbered, numbered, sound-few}
use Rattle.solve.proofs.Told.{table, asks, NothingAsked, solvable, solution-nothing, alone-octets, not-one-value}

or-second : (a b : Bool) → (not a || b) ≡ true → a ≡ true → b ≡ true
or-second true b h same = h
or-second false b h same = absurd (false≢true same)

or-by : (a b : Bool) → (a ≡ true → b ≡ true) → (not a || b) ≡ true
or-by true b h = h refl
or-by false b h = refl

module _ (cells : List Cell) (messages : List Message) (held : List Held) (n : Numbered messages (equation_at held))
    (long : length cells ≡ kept_numbers) where
  -- ---- the test of all rows
  pub fit-says : all_fit cells held (table cells messages held n) ≡ true → NothingAsked cells messages held n
  unfolding all_fit row_fits
  fit-says e i below empty k inside =
      eqb-true _ 0
      (all_below-at packet_limit (λ j. eqb (asks cells messages held n j i) 0)
      (or-second (empty_test columns (columns_of (table cells messages held n) i)) _
      (all_below-at table_rows (row_fits cells held (table cells messages held n)) e i below)
      (empty_of columns (columns_of (table cells messages held n) i) empty))
      k
      inside)

  fit_of : NothingAsked cells messages held n → all_fit cells held (table cells messages held n) ≡ true
  unfolding all_fit row_fits
  fit_of nothing =
      all_below-of table_rows (row_fits cells held (table cells messages held n))
      (λ i below.
      or-by (empty_test columns (columns_of (table cells messages held n) i)) _
      (λ e.
      all_below-of packet_limit (λ j. eqb (asks cells messages held n j i) 0)
      (λ k inside. eq-eqb _ 0 (nothing i below (empty-says columns (columns_of (table cells messages held n) i) e) k inside))))

  -- ---- the numbers after it
  abbrev after : List Cell
  after = cells_after cells held (table cells messages held n) table_rows

  abbrev pub lonely : ℕ → ℕ
  lonely p = alone_row columns table_rows (columns_of (table cells messages held n)) p

  cell-is : (p : ℕ) → p < kept_numbers → cell_at after p ≡ cell_after cells held (table cells messages held n) table_rows p
  unfolding cells_after
  cell-is p small = tab-at kept_numbers (cell_after cells held (table cells messages held n) table_rows) p blank_cell small

  picked : (p : ℕ) (t : Bool) → (unknown_at cells p && ltb (lonely p) table_rows) ≡ t
      → cell_after cells held (table cells messages held n) table_rows p
      ≡ cond t (filled_cell 0 repaired (row_octets cells held (row_at (table cells messages held n) (lonely p)))) (cell_at cells p)
  unfolding cell_after
  picked p t e =
      ap
      (λ (b : Bool).
      cond b (filled_cell 0 repaired (row_octets cells held (row_at (table cells messages held n) (lonely p)))) (cell_at cells p))
      e

  pub inside-view : (p : ℕ) → Unknown cells p → p < kept_numbers
  inside-view p unknown = omega (arith, unknown-inside cells p unknown)

  after-size : length after ≡ length cells
  unfolding cells_after
  after-size = length-tab kept_numbers (cell_after cells held (table cells messages held n) table_rows) ∙ sym long

  after_kept : (p : ℕ) → Known cells p → cell_at after p ≡ cell_at cells p
  after_kept p known =
      ⊎_elim (λ small. cell-is p small ∙ picked p false (ap (λ (t : Bool). t && ltb (lonely p) table_rows) known))
      (λ outside.
      get_or-eq_default after blank_cell {n = p} (omega (arith, after-size))
      ∙ sym (get_or-eq_default cells blank_cell {n = p} (omega arith)))
      (below_or_not p kept_numbers)

  pub found_of : (p : ℕ) → lonely p < table_rows → HasAlone columns table_rows (columns_of (table cells messages held n)) p
  found_of p below =
      record {
        row = lonely p;
        inside = below;
        alone = alone-found columns table_rows (columns_of (table cells messages held n)) p below;
      }

  pub not_found : (p : ℕ) → table_rows ≤ lonely p → HasAlone columns table_rows (columns_of (table cells messages held n)) p → ⊥
  not_found p past found =
      omega (
        arith,
        found.inside,
        alone-no-later columns table_rows (columns_of (table cells messages held n)) p found.row found.alone,
      )

  after_filled : NothingAsked cells messages held n → (p : ℕ) → Unknown cells p → OneValue cells messages p → (x : ℕ → List ℕ)
      → Solution cells messages x → cell_at after p ≡ filled_cell 0 repaired (x p)
  unfolding found_of
  after_filled nothing p unknown one x s =
      let small = inside-view p unknown in
      ⊎_elim
      (λ below.
      cell-is p small
      ∙ picked p true (and_both unknown (lt-ltb (lonely p) table_rows below))
      ∙ ap (filled_cell 0 repaired) (sym (alone-octets cells messages held n p small (found_of p below) x s)))
      (λ past. absurd (not-one-value cells messages held n nothing p small unknown (not_found p past) one))
      (below_or_not (lonely p) table_rows)

  after-left : (p : ℕ) → Unknown cells p → (OneValue cells messages p → ⊥) → cell_at after p ≡ cell_at cells p
  after-left p unknown none =
      let small = inside-view p unknown in
      ⊎_elim
      (λ below.
      absurd
      (none
      (λ x y sx sy.
      alone-octets cells messages held n p small (found_of p below) x sx
      ∙ sym (alone-octets cells messages held n p small (found_of p below) y sy))))
      (λ past.
      cell-is p small
      ∙ picked p false
      (ap (λ (t : Bool). t && ltb (lonely p) table_rows) unknown ∙ le-ltb (lonely p) table_rows past))
      (below_or_not (lonely p) table_rows)

  pub fit-solved : all_fit cells held (table cells messages held n) ≡ true → Solved cells messages after
  fit-solved fits =
      let nothing = fit-says fits in
      record {
        some = solvable cells messages held n nothing;
        size = after-size;
        kept = after_kept;
        filled = after_filled nothing;
        left = after-left;
      }

  pub misfit-unsolvable : all_fit cells held (table cells messages held n) ≡ false → Unsolvable cells messages
  misfit-unsolvable misfit x s = false≢true (sym misfit ∙ fit_of (solution-nothing cells messages held n x s))

-- ---- the session
pub means-it : (view : View) → Sound view → Solves view (solve view)
unfolding solve
means-it view s = pick (all_fit view.cells view.held (reduced_rows view)) refl
  where
    pick : (t : Bool) → all_fit view.cells view.held (reduced_rows view) ≡ t
        → Solves view
        (cond t (done (with_cells view (cells_after view.cells view.held (reduced_rows view) table_rows))) (refuse no_solution))
    pick true fits =
        record {
          base = refl;
          counts = refl;
          held = refl;
          cells = fit-solved view.cells (held_messages view.held) view.held (numbered (sound-few s)) s.kept fits;
        }
    pick false misfit =
        (misfit-unsolvable view.cells (held_messages view.held) view.held (numbered (sound-few s)) s.kept misfit, refl)
