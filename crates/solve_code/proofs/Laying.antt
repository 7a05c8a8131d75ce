-- The table laid row by row, on plain values. Assumes nothing.
use Rattle.std.proofs.Common.{◌≡◌, ℕ, ◌+◌, ◌<◌, ◌≤◌, List, length, get_or, set, sym, refl, ap, ◌∙◌, ap₂, ⊎_elim, arith, length-set, get_or-set_other, get_or-set_same, ext_get_or}
use lib.Bits.{bit_and}
use Rattle.octets.proofs.Laws.{same_or_not, tab-at, length-tab}
use Rattle.solve_algebra.specs.Masks.{mask_of}
use Rattle.solve_algebra.specs.Rows.{table_rows, no_row, row_at, start_row}
use Rattle.solve_algebra.specs.Promise.{RowStarted}
use Rattle.solve_algebra.specs.declared.Row.{Row}
use Rattle.session_held.specs.Table.{cells_of, held_of}
use Rattle.solve.specs.Table.{equation_at, equation_mask, start_rows}
use Rattle.solve_code.specs.RowsPromise.{UnknownMade, EquationMade, TableLaid}

-- row e, with every pair of stores
abbrev laid_row : ℕ → List ℕ → List ℕ → List ℕ → ℕ → Row
laid_row base t o g e = start_row (equation_mask (cells_of base t o) (equation_at (held_of base t g) e)) e

-- the first e rows are laid
pub record RowsTo (base : ℕ) (t : List ℕ) (rows : List Row) (e : ℕ) : Type 0 where
  pub long : length rows ≡ table_rows
  pub few : e ≤ table_rows
  pub each : (k : ℕ) → k < e → (o g : List ℕ) → row_at rows k ≡ laid_row base t o g k

pub rows_start : (base : ℕ) (t : List ℕ) (rows : List Row) → length rows ≡ table_rows → RowsTo base t rows 0
rows_start base t rows long = record { long = long; few = omega arith; each = λ k below o g. absurd (omega arith) }

pub rows-turn : {base unknown e mask number : ℕ} {t : List ℕ} {rows : List Row} {row : Row} → UnknownMade base t unknown
    → RowsTo base t rows e → e < table_rows → EquationMade base t unknown e mask → number ≡ e → RowStarted mask number row
    → RowsTo base t (set rows e row) (e + 1)
unfolding equation_mask
rows-turn {base} {unknown} {e} {mask} {number} {t} {rows} {row} u s below made en started =
    record { long = length-set rows e row ∙ s.long; few = omega arith; each = each }
  where
    here : (o g : List ℕ) → row ≡ laid_row base t o g e
    here o g =
        started.answer
        ∙ ap₂ start_row
        (made.answer g ∙ ap (bit_and (mask_of (equation_at (held_of base t g) e).members)) (u.answer o))
        en

    each : (k : ℕ) → k < e + 1 → (o g : List ℕ) → row_at (set rows e row) k ≡ laid_row base t o g k
    each k small o g =
        ⊎_elim
        (λ same.
        ap (row_at (set rows e row)) same
        ∙ get_or-set_same rows e row no_row (omega (arith, s.long))
        ∙ here o g
        ∙ ap (laid_row base t o g) (sym same))
        (λ other. get_or-set_other rows e k row no_row other ∙ s.each k (omega arith) o g)
        (same_or_not k e)

pub rows-done : {base e : ℕ} {t : List ℕ} {rows : List Row} → RowsTo base t rows e → table_rows ≤ e → TableLaid base t rows
unfolding start_rows
rows-done {base} {e} {t} {rows} s all =
    record {
      answer = λ o g.
          ext_get_or no_row rows (start_rows (cells_of base t o) (held_of base t g))
          (s.long ∙ sym (length-tab table_rows (laid_row base t o g)))
          (λ k below.
          let small : k < table_rows = omega (arith, s.long) in
          s.each k (omega arith) o g ∙ sym (tab-at table_rows (laid_row base t o g) k no_row small));
    }
