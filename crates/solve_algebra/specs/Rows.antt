-- A fixed table of 128 rows (rule 1.16). Each row has some of 64 columns, and is the exclusive or of some of 128 equations. What an
-- equation asks for is outside the table, so that one table serves every octet of a packet. Definitions only.
use Rattle.std.specs.Prelude.{ℕ, ◌-◌, ◌^◌, ◌<◌, ◌≡◌, Bool, cond, List, get_or, ltb}
use Rattle.solve_algebra.specs.Sums.{sum_over}
use Rattle.solve_algebra.specs.Masks.{mask_places, has_place}
use Rattle.solve_algebra.specs.declared.Row.{Row}

abbrev pub table_rows : ℕ
table_rows = 128

-- a row's columns are the places of a mask
abbrev pub columns : ℕ
columns = mask_places

abbrev pub no_row : Row
no_row = record { mask = 0; low = 0; high = 0 }

abbrev pub row_at : List Row → ℕ → Row
row_at rows i = get_or rows i no_row

-- row i has column c
abbrev pub columns_of : List Row → ℕ → ℕ → Bool
columns_of rows i c = has_place (row_at rows i).mask c

-- equation e is in the row's sum
unfoldable pub source_in : Row → ℕ → Bool
source_in row e = cond (ltb e mask_places) (has_place row.low e) (has_place row.high (e - mask_places))

-- equation e as a row
unfoldable pub start_row : ℕ → ℕ → Row
start_row mask e =
    cond (ltb e mask_places) (record { mask = mask; low = 2 ^ e; high = 0 }) (record { mask = mask; low = 0; high = 2 ^ (e - mask_places) })

-- what a row asks for, if equation e asks for `asked e`
unfoldable pub asked_by : (ℕ → ℕ) → Row → ℕ
asked_by asked row = sum_over table_rows (source_in row) asked

-- the values satisfy a row, and all rows of the table
abbrev pub RowHolds : (ℕ → ℕ) → (ℕ → ℕ) → Row → Type 0
RowHolds asked values row = sum_over columns (has_place row.mask) values ≡ asked_by asked row

abbrev pub AllHold : (ℕ → ℕ) → (ℕ → ℕ) → List Row → Type 0
AllHold asked values rows = (i : ℕ) → i < table_rows → RowHolds asked values (row_at rows i)
