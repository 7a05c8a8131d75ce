-- Solving, taken apart: where it is not refused, each number in view is unchanged, or it was unknown and is filled as repaired with note
-- zero; all else is unchanged. Assumes nothing.
use Prim.Native.Nat.{ℕ, ◌%◌, ◌≤◌, ◌<◌}
use mathlib.Core.Path.{◌≡◌, refl, sym, ap, subst, ◌∙◌}
use mathlib.Core.Logic.{◌⊎◌, inl, inr, ⊎_elim}
use mathlib.Core.Bool.{Bool, true, false, cond, ◌&&◌}
use mathlib.Core.List.{List}
use lib.ListN.{length, get_or-eq_default}
use lib.Dec.{ltb}
use Rattle.octets.proofs.Laws.{length-tab, tab-at, below_or_not}
use Rattle.length.specs.Refusals.{no_solution}
use Rattle.length.specs.Answers.{done}
use Rattle.length.proofs.Laws.{cond-met, done-same}
use Rattle.datagram.specs.Sizes.{covered_limit, messages_limit}
use Rattle.solve_algebra.specs.Systems.{alone_row}
use Rattle.solve_algebra.specs.Rows.{table_rows, columns, row_at, columns_of}
use Rattle.solve_algebra.specs.declared.Row.{Row}
use Rattle.session.specs.Cells.{Cell, repaired, blank_cell, filled_cell, cell_at, unknown_at, kept_numbers}
use Rattle.session.specs.Held.{Held, held_at}
use Rattle.session.specs.Reached.{Unknown}
use Rattle.session.specs.View.{View, Counts, sum, numbers}
use Rattle.solve.specs.Table.{row_octets}
use Rattle.solve.specs.Solve as solutions
use Rattle.solve.specs.Solve.{cell_after, cells_after, with_cells, reduced_rows, all_fit}
use Rattle.demands.proofs.Ranges.{ViewInRanges}
use Rattle.demands.proofs.Growing.{Fills, as_repaired, Grown}
use Rattle.demands.proofs.InRanges.{fills-not-blank}

pub record SolveDone (view last : View) : Type 0 where
  pub base : last.base ≡ view.base
  pub counts : last.counts ≡ view.counts
  pub held : last.held ≡ view.held
  pub grown : length view.cells ≡ kept_numbers → Grown 0 view.cells last.cells

-- ---- the numbers in view
old-or-new : (u l : Bool) (new old : Cell) → (cond (u && l) new old ≡ old) ⊎ ((u ≡ true) × (cond (u && l) new old ≡ new))
old-or-new true true new old = inr (refl, refl)
old-or-new true false new old = inl refl
old-or-new false l new old = inl refl

module _ (cells : List Cell) (held : List Held) (rows : List Row) (n : ℕ) (long : length cells ≡ kept_numbers) where
  long_after : length (cells_after cells held rows n) ≡ kept_numbers
  unfolding cells_after
  long_after = length-tab kept_numbers (cell_after cells held rows n)

  cell-after : (q : ℕ) → q < kept_numbers → cell_at (cells_after cells held rows n) q ≡ cell_after cells held rows n q
  unfolding cells_after
  cell-after q low = tab-at kept_numbers (cell_after cells held rows n) q blank_cell low

  abbrev fill : ℕ → Cell
  fill q = filled_cell 0 repaired (row_octets cells held (row_at rows (alone_row columns table_rows (columns_of rows) q)))

  one-after : (q : ℕ) → (cell_after cells held rows n q ≡ cell_at cells q) ⊎ (Unknown cells q × (cell_after cells held rows n q ≡ fill q))
  unfolding cell_after
  one-after q = old-or-new (unknown_at cells q) (ltb (alone_row columns table_rows (columns_of rows) q) n) (fill q) (cell_at cells q)

  grown-after : Grown 0 cells (cells_after cells held rows n)
  grown-after =
      record {
        long = long_after ∙ sym long;
        each = λ q.
            ⊎_elim
            (λ inside.
            ⊎_elim (λ same. inl (cell-after q inside ∙ same))
            (λ new.
            let is = cell-after q inside ∙ new.1 in
            inr (new.0, subst (λ (c : Cell). Fills c.state) (sym is) as_repaired, ap (λ (c : Cell). c.note) is))
            (one-after q))
            (λ past.
            inl
            (get_or-eq_default (cells_after cells held rows n) blank_cell {n = q} (rw long_after past)
            ∙ sym (get_or-eq_default cells blank_cell {n = q} (rw long past))))
            (below_or_not q kept_numbers);
      }

pub solve-done : (view last : View) → solutions.solve view ≡ done last → SolveDone view last
unfolding solutions.solve
solve-done view last e =
    let is : with_cells view (cells_after view.cells view.held (reduced_rows view) table_rows) ≡ last =
    done-same (cond-met (all_fit view.cells view.held (reduced_rows view)) no_solution _ last e).1 in
    subst (SolveDone view) is
    (record { base = refl; counts = refl; held = refl; grown = grown-after view.cells view.held (reduced_rows view) table_rows })

-- ---- the ranges stay
pub solved-in-ranges : {view last : View} → SolveDone view last → ViewInRanges view → ViewInRanges last
solved-in-ranges {view} {last} o r =
    let g = o.grown r.kept in
    record {
      kept = g.long ∙ r.kept;
      heard = ap length o.held ∙ r.heard;
      base = o.base ∙ r.base ∙ ap (λ (c : Counts). sum c % numbers) (sym o.counts);
      no_blank = λ p past small e.
          ⊎_elim (λ same. r.no_blank p past small (sym (ap (λ (c : Cell). c.state) same) ∙ e)) (λ new. fills-not-blank new.1 e)
          (g.each p);
      covered = λ d small. subst (λ (h : List Held). (held_at h d).n ≤ covered_limit) (sym o.held) (r.covered d small);
      messages = λ d small.
          subst (λ (h : List Held). length (held_at h d).messages ≤ messages_limit) (sym o.held) (r.messages d small);
    }
