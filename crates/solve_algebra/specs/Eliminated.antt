-- Elimination, column by column (rule 30.6): of the rows not yet used, the first that has the column is swapped up, and the column is
-- removed from every other row. Definitions only.
use Rattle.std.specs.Prelude.{ℕ, zero, suc, ◌+◌, Bool, cond, ◌&&◌, List, set, eqb, leb, ltb}
use Rattle.std.specs.Int.Bits.{bit_xor}
use Rattle.octets.specs.Place.{tab}
use Rattle.solve_algebra.specs.First.{first_passing}
use Rattle.solve_algebra.specs.Masks.{has_place}
use Rattle.solve_algebra.specs.Rows.{table_rows, columns, row_at, columns_of}
use Rattle.solve_algebra.specs.declared.Row.{Row}

-- the exclusive or of two rows: what both have cancels
unfoldable pub combined_row : Row → Row → Row
combined_row a b = record { mask = bit_xor a.mask b.mask; low = bit_xor a.low b.low; high = bit_xor a.high b.high }

-- the first row from `from` on that has column c; `table_rows` if none has it
unfoldable pub pivot_in : List Row → ℕ → ℕ → ℕ
pivot_in rows from c = first_passing table_rows (λ i. leb from i && columns_of rows i c)

unfoldable pub swapped_rows : List Row → ℕ → ℕ → List Row
swapped_rows rows a b = set (set rows a (row_at rows b)) b (row_at rows a)

-- a row with column c removed by combining it with the row that keeps the column, which itself is unchanged
unfoldable pub cleared_row : Row → Row → ℕ → Bool → Row
cleared_row row own c keeps = cond keeps row (cond (has_place row.mask c) (combined_row row own) row)

-- column c removed from every row but the one at `at`, which keeps it
unfoldable pub cleared_rows : List Row → ℕ → ℕ → List Row
cleared_rows rows at c = tab table_rows (λ j. cleared_row (row_at rows j) (row_at rows at) c (eqb j at))

-- n more columns, from column c on; the rows before `rank` are used
unfoldable pub eliminated_f : ℕ → ℕ → ℕ → List Row → List Row
eliminated_f zero rank c rows = rows
eliminated_f (suc n) rank c rows =
    cond (ltb (pivot_in rows rank c) table_rows)
    (eliminated_f n (rank + 1) (c + 1) (cleared_rows (swapped_rows rows (pivot_in rows rank c) rank) rank c))
    (eliminated_f n rank (c + 1) rows)

unfoldable pub eliminated : List Row → List Row
eliminated rows = eliminated_f columns 0 0 rows
