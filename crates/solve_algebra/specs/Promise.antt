-- The promises of the functions on rows and the table, a record for each (rule 30.6). Definitions only.
use Rattle.std.specs.Prelude.{ℕ, ◌≡◌, Bool, List}
use Rattle.solve_algebra.specs.Rows.{source_in, start_row}
use Rattle.solve_algebra.specs.Eliminated.{combined_row, pivot_in, swapped_rows, cleared_row, cleared_rows, eliminated}
use Rattle.solve_algebra.specs.declared.Row.{Row}

-- equation e as a row
pub record RowStarted (mask e : ℕ) (r : Row) : Type 0 where
  pub answer : r ≡ start_row mask e

-- whether equation e is in a row's sum
pub record SourceTold (row : Row) (e : ℕ) (r : Bool) : Type 0 where
  pub answer : r ≡ source_in row e

-- the exclusive or of two rows
pub record RowsCombined (a b r : Row) : Type 0 where
  pub answer : r ≡ combined_row a b

-- the first row from `from` on that has column c
pub record PivotFound (rows : List Row) (from c r : ℕ) : Type 0 where
  pub answer : r ≡ pivot_in rows from c

-- two rows swapped
pub record RowsSwapped (rows : List Row) (a b : ℕ) (r : List Row) : Type 0 where
  pub answer : r ≡ swapped_rows rows a b

-- a row with column c removed by the row that keeps it
pub record RowCleared (row own : Row) (c : ℕ) (keeps : Bool) (r : Row) : Type 0 where
  pub answer : r ≡ cleared_row row own c keeps

-- column c removed from every row but the one at `at`
pub record ColumnCleared (rows : List Row) (at c : ℕ) (r : List Row) : Type 0 where
  pub answer : r ≡ cleared_rows rows at c

-- the reduced table
pub record Eliminates (rows r : List Row) : Type 0 where
  pub answer : r ≡ eliminated rows
