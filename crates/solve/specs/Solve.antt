-- The solve call as a function of the session: the table is eliminated; 23 is given if an empty row asks for something (rule 14.6); each
-- unknown number that is alone in a row is filled with what the row asks for (rules 14.2 and 14.3). `SolutionsClaims` states that this
-- is what `Solved` defines. Definitions only.
use Rattle.std.specs.Prelude.{ℕ, Bool, not, cond, ◌&&◌, ◌||◌, List, eqb, ltb}
use Rattle.octets.specs.Place.{tab, all_below}
use Rattle.length.specs.Refusals.{no_solution}
use Rattle.length.specs.Answers.{Answer, done, refuse}
use Rattle.datagram.specs.Sizes.{packet_limit}
use Rattle.solve_algebra.specs.Systems.{empty_test, alone_row}
use Rattle.solve_algebra.specs.Rows.{table_rows, columns, row_at, columns_of}
use Rattle.solve_algebra.specs.Eliminated.{eliminated}
use Rattle.solve_algebra.specs.declared.Row.{Row}
use Rattle.session.specs.Cells.{Cell, repaired, filled_cell, cell_at, unknown_at, kept_numbers}
use Rattle.session.specs.Held.{Held}
use Rattle.session.specs.View.{View}
use Rattle.solve.specs.Table.{start_rows, row_asks, row_octets}

-- a row has columns, or asks for nothing
unfoldable pub row_fits : List Cell → List Held → List Row → ℕ → Bool
row_fits cells held rows i =
    not (empty_test columns (columns_of rows i)) || all_below packet_limit (λ k. eqb (row_asks cells held (row_at rows i) k) 0)

unfoldable pub all_fit : List Cell → List Held → List Row → Bool
all_fit cells held rows = all_below table_rows (row_fits cells held rows)

-- the number at place p after the first n rows: filled if it is unknown and alone in one of them (rule 14.3)
unfoldable pub cell_after : List Cell → List Held → List Row → ℕ → ℕ → Cell
cell_after cells held rows n p =
    let row = alone_row columns table_rows (columns_of rows) p in
    cond (unknown_at cells p && ltb row n) (filled_cell 0 repaired (row_octets cells held (row_at rows row))) (cell_at cells p)

unfoldable pub cells_after : List Cell → List Held → List Row → ℕ → List Cell
cells_after cells held rows n = tab kept_numbers (cell_after cells held rows n)

-- the table, eliminated
abbrev pub reduced_rows : View → List Row
reduced_rows view = eliminated (start_rows view.cells view.held)

-- the session with other numbers in view, and all else unchanged (rule 14.8)
abbrev pub with_cells : View → List Cell → View
with_cells view cells = record { base = view.base; counts = view.counts; cells = cells; held = view.held }

unfoldable pub solve : View → Answer View
solve view =
    cond (all_fit view.cells view.held (reduced_rows view))
    (done (with_cells view (cells_after view.cells view.held (reduced_rows view) table_rows)))
    (refuse no_solution)
