-- The whole call, on plain values: the table, what the equations ask for and the fills are those of the function. Assumes nothing.
use Rattle.std.proofs.Common.{◌≡◌, ℕ, zero, suc, ◌+◌, ◌<◌, ◌≤◌, Bool, true, false, cond, not, ◌||◌, eqb, List, length, sym, refl, ap, ◌∙◌, ap₂, arith, Ok, Err}
use Rattle.octets.specs.Place.{all_below}
use Rattle.octets.proofs.Laws.{tab-ext, all_below-ext}
use Rattle.length.specs.Refusals.{refusal, no_solution}
use Rattle.length.specs.Answers.{Answer, done, refused, refuse, afterwards}
use Rattle.length.specs.Promise.{RefusalMade}
use Rattle.length.specs.declared.Refusal.{Refusal}
use Rattle.length.proofs.Laws.{not_done}
use Rattle.datagram.specs.Sizes.{packet_limit}
use Rattle.solve_algebra.specs.Systems.{empty_test}
use Rattle.solve_algebra.proofs.LinearLaws.{sum_same}
use Rattle.solve_algebra.specs.Masks.{has_place, lone_place}
use Rattle.solve_algebra.specs.Rows.{table_rows, columns, row_at, source_in, asked_by}
use Rattle.solve_algebra.specs.Eliminated.{eliminated}
use Rattle.solve_algebra.specs.Promise.{Eliminates}
use Rattle.solve_algebra.specs.declared.Row.{Row}
use Rattle.session.specs.Cells.{Cell, repaired}
use Rattle.session.specs.Held.{Held}
use Rattle.session.specs.Offer.{keep}
use Rattle.session.specs.View.{View}
use Rattle.session_held.specs.Table.{Lent, lent, counts_of, cells_of, held_of, view_in}
use Rattle.session_held.specs.Laid.{InRanges}
use Rattle.session_held.proofs.Laws.{length-cells}
use Rattle.solve_code.specs.RowsPromise.{TableLaid}
use Rattle.solve.specs.Table.{equation_at, start_rows, side_at, row_asks, row_octets}
use Rattle.solve.specs.Solve.{row_fits, all_fit, cells_after, reduced_rows, with_cells, solve}
use Rattle.solve.proofs.SolutionsLaws.{after_none, after_turn}
use Rattle.solve_code.specs.Steps.{SidesLaid, laid_at, sum_at, row_sum, fits, RowsTold, filled_row, filled_rows, RowsFill}
use Rattle.solve_code.specs.Outcome.{filled_of}
use Rattle.solve_code.specs.Promise.{Solving}

module _ {l : Lent} (w : InRanges l) {rows reduced : List Row} {all : List ℕ} (laid : TableLaid l.base l.table rows)
    (small : Eliminates rows reduced) (sides : SidesLaid l.base l.table l.octets l.messages all) where
  abbrev cells : List Cell
  cells = cells_of l.base l.table l.octets

  abbrev held : List Held
  held = held_of l.base l.table l.messages

  rows_are : reduced ≡ eliminated (start_rows cells held)
  rows_are = small.answer ∙ ap eliminated (laid.answer l.octets l.messages)

  -- ---- what a row asks for
  sum_is : (row : Row) (k : ℕ) → k < packet_limit → sum_at all row k ≡ row_asks cells held row k
  unfolding sum_at row_asks asked_by
  sum_is row k inside =
      sum_same table_rows (source_in row) (source_in row) (laid_at all k) (λ e. side_at cells (equation_at held e) k) (λ e below. refl)
      (λ e below has. sides.each e k below inside)

  octets-are : (row : Row) → row_sum all row ≡ row_octets cells held row
  unfolding row_sum row_octets
  octets-are row = tab-ext packet_limit (sum_at all row) (row_asks cells held row) (λ k inside. sum_is row k inside)

  -- ---- whether all rows fit
  fit_is : (i : ℕ) → fits all (row_at reduced i) ≡ row_fits cells held reduced i
  unfolding fits row_fits
  fit_is i =
      ap (λ (b : Bool). not (empty_test columns (has_place (row_at reduced i).mask)) || b)
      (all_below-ext packet_limit (λ k. eqb (sum_at all (row_at reduced i) k) 0) (λ k. eqb (row_asks cells held (row_at reduced i) k) 0)
      (λ k inside. ap (λ (x : ℕ). eqb x 0) (sum_is (row_at reduced i) k inside)))

  all-fit : {ok : Bool} → RowsTold all reduced ok → all_fit cells held (eliminated (start_rows cells held)) ≡ ok
  unfolding all_fit
  all-fit told =
      sym
      (told.answer
      ∙ all_below-ext table_rows (λ i. fits all (row_at reduced i)) (row_fits cells held reduced) (λ i below. fit_is i)
      ∙ ap (λ (r : List Row). all_below table_rows (row_fits cells held r)) rows_are)

  -- ---- the fills
  fills-are : (n : ℕ) → n ≤ table_rows → filled_rows all reduced n cells ≡ cells_after cells held reduced n
  unfolding filled_rows filled_row
  fills-are zero few = sym (after_none cells held reduced (length-cells l.base l.table l.octets))
  fills-are (suc n) few =
      ap (filled_row all (row_at reduced n)) (fills-are n (omega arith))
      ∙ ap (λ (b : List ℕ). keep 0 repaired (lone_place (row_at reduced n).mask) b (cells_after cells held reduced n))
      (octets-are (row_at reduced n))
      ∙ after_turn cells held reduced n (omega arith)
      ∙ ap (cells_after cells held reduced) {x = n + 1} {y = suc n} (omega arith)

  -- ---- the answer
  solve-done : all_fit cells held (eliminated (start_rows cells held)) ≡ true
      → solve (view_in l) ≡ done (with_cells (view_in l) (cells_after cells held (eliminated (start_rows cells held)) table_rows))
  unfolding solve view_in
  solve-done e =
      ap
      (λ (b : Bool).
      cond b (done (with_cells (view_in l) (cells_after cells held (eliminated (start_rows cells held)) table_rows))) (refuse no_solution))
      e

  solve-refused : all_fit cells held (eliminated (start_rows cells held)) ≡ false → solve (view_in l) ≡ refuse no_solution
  unfolding solve view_in
  solve-refused e =
      ap
      (λ (b : Bool).
      cond b (done (with_cells (view_in l) (cells_after cells held (eliminated (start_rows cells held)) table_rows))) (refuse no_solution))
      e

  pub solved-filled : {ok : Bool} {new_t new_o : List ℕ} → RowsTold all reduced ok → ok ≡ true
      → RowsFill l.base all reduced l.table l.octets new_t new_o
      → Solving l (lent l.base l.counts new_t new_o l.messages) (Ok tt)
  unfolding view_in
  solved-filled {ok} {new_t} {new_o} told right fill =
      let is = solve-done (all-fit told ∙ right) in
      let now = fill.fills l.counts l.messages w in
      record {
        told = sym (ap (λ (a : Answer View). filled_of a) is);
        state =
            ap₂
            (λ (c : List Cell) (h : List Held). record { base = l.base; counts = counts_of l.counts; cells = c; held = h })
            (now.cells
            ∙ fills-are table_rows (omega arith)
            ∙ ap (λ (r : List Row). cells_after cells held r table_rows) rows_are)
            now.held
            ∙ sym (ap (λ (a : Answer View). afterwards a (view_in l)) is);
        within = now.within;
        stays = λ x no. absurd (not_done (sym no ∙ is));
      }

  pub solved-refused : {ok : Bool} {why : Refusal} → RowsTold all reduced ok → ok ≡ false → RefusalMade no_solution why
      → Solving l l (Err why)
  solved-refused {ok} {why} told none made =
      let is = solve-refused (all-fit told ∙ none) in
      record {
        told =
            ap (λ (r : Refusal). refused r) made.answer
            ∙ sym (ap (λ (a : Answer View). filled_of a) is);
        state = sym (ap (λ (a : Answer View). afterwards a (view_in l)) is);
        within = w;
        stays = λ x no. refl;
      }
