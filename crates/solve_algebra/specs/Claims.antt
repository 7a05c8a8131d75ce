-- The claims about the rows of the table and its elimination (rules 1.16 and 30.6). Statements alone.
use Rattle.std.specs.Prelude.{ℕ, ◌<◌, ◌≡◌, ◌↔◌, Bool, List, length, eqb}
use Rattle.solve_algebra.specs.Systems.{Reduced}
use Rattle.solve_algebra.specs.Rows.{table_rows, columns, columns_of, source_in, AllHold}
use Rattle.solve_algebra.specs.Promise.{RowStarted, SourceTold, Eliminates}
use Rattle.solve_algebra.specs.declared.Row.{Row}

-- the row of equation e has the equation's mask, and e alone in its sum
pub record StartsRight : Type 0 where
  pub mask : {mask e : ℕ} {r : Row} → RowStarted mask e r → r.mask ≡ mask
  pub source : {mask e : ℕ} {r : Row} → RowStarted mask e r → e < table_rows → (f : ℕ) → f < table_rows → source_in r f ≡ eqb f e

-- whatever is asked, the same values satisfy the table before and after elimination. Afterwards every row is empty or has a column of its
-- own, so that `LinearClaims` gives what the equations allow (rule 14.2)
pub record Reduces : Type 0 where
  pub same : {rows after : List Row} → length rows ≡ table_rows → Eliminates rows after
      → (asked values : ℕ → ℕ) → AllHold asked values rows ↔ AllHold asked values after
  pub reduced : {rows after : List Row} → length rows ≡ table_rows → Eliminates rows after → Reduced columns table_rows (columns_of after)
  pub long : {rows after : List Row} → length rows ≡ table_rows → Eliminates rows after → length after ≡ table_rows

-- two answers that a promise allows are equal (rule 28.14)
pub record OneOutcome : Type 0 where
  pub start : {mask e : ℕ} {r q : Row} → RowStarted mask e r → RowStarted mask e q → r ≡ q
  pub source : {row : Row} {e : ℕ} {r q : Bool} → SourceTold row e r → SourceTold row e q → r ≡ q
  pub reduced : {rows r q : List Row} → Eliminates rows r → Eliminates rows q → r ≡ q

pub record Claims : Type 0 where
  pub starts_right : StartsRight
  pub reduces : Reduces
  pub one_outcome : OneOutcome
