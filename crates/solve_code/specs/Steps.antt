-- The steps of the solve call (rules 1.16, 14.1 to 14.3 and 14.6): what the equations ask for, in 128 slots in order; what a row asks for,
-- whether it fits, and what it fills. Definitions only.
use Rattle.std.specs.Prelude.{◌≡◌, ℕ, zero, suc, ◌+◌, ◌*◌, ◌<◌, ◌≤◌, Bool, not, ◌||◌, List, length, nat_eq, slice_index}
use Rattle.octets.specs.Place.{tab, all_below}
use Rattle.datagram.specs.Sizes.{packet_limit}
use Rattle.solve_algebra.specs.Systems.{empty_test}
use Rattle.solve_algebra.specs.Masks.{has_place, lone_place}
use Rattle.solve_algebra.specs.Rows.{table_rows, columns, row_at, asked_by}
use Rattle.solve_algebra.specs.declared.Row.{Row}
use Rattle.session.specs.Cells.{Cell, repaired}
use Rattle.session.specs.Offer.{keep}
use Rattle.session_held.specs.Slots.{message_octets}
use Rattle.session_held.specs.Table.{lent, cells_of, held_of}
use Rattle.session_held.specs.Laid.{InRanges}
use Rattle.session_held.specs.declared.Counts.{Counts}
use Rattle.session_offer.specs.KeepPromise.{CellsNow}
use Rattle.solve.specs.Table.{equation_at, side_at}

-- ---- what the equations ask for
pub record SideTold (base : ℕ) (table octets messages : List ℕ) (e : ℕ) (r : List ℕ) : Type 0 where
  pub long : length r ≡ packet_limit
  pub each : (k : ℕ) → k < packet_limit → slice_index r k ≡ side_at (cells_of base table octets) (equation_at (held_of base table messages) e) k

pub record SidesLaid (base : ℕ) (table octets messages : List ℕ) (r : List ℕ) : Type 0 where
  pub long : length r ≡ message_octets
  pub each : (e k : ℕ) → e < table_rows → k < packet_limit
      → slice_index r (e * packet_limit + k) ≡ side_at (cells_of base table octets) (equation_at (held_of base table messages) e) k

-- ---- what a row asks for
abbrev pub laid_at : List ℕ → ℕ → ℕ → ℕ
laid_at all k e = slice_index all (e * packet_limit + k)

unfoldable pub sum_at : List ℕ → Row → ℕ → ℕ
sum_at all row k = asked_by (laid_at all k) row

unfoldable pub row_sum : List ℕ → Row → List ℕ
row_sum all row = tab packet_limit (sum_at all row)

pub record RowSummed (all : List ℕ) (row : Row) (r : List ℕ) : Type 0 where
  pub answer : r ≡ row_sum all row

-- ---- whether a row has columns or asks for nothing (rule 14.6)
unfoldable pub fits : List ℕ → Row → Bool
fits all row = not (empty_test columns (has_place row.mask)) || all_below packet_limit (λ k. nat_eq (sum_at all row k) 0)

pub record RowTold (all : List ℕ) (row : Row) (r : Bool) : Type 0 where
  pub answer : r ≡ fits all row

pub record RowsTold (all : List ℕ) (rows : List Row) (r : Bool) : Type 0 where
  pub answer : r ≡ all_below table_rows (λ i. fits all (row_at rows i))

-- ---- what a row fills: its only number, if that is still unknown (rules 14.2 and 14.3)
unfoldable pub filled_row : List ℕ → Row → List Cell → List Cell
filled_row all row cells = keep 0 repaired (lone_place row.mask) (row_sum all row) cells

unfoldable pub filled_rows : List ℕ → List Row → ℕ → List Cell → List Cell
filled_rows all rows zero cells = cells
filled_rows all rows (suc n) cells = filled_row all (row_at rows n) (filled_rows all rows n cells)

-- the memory that the fills use is part of a session within its ranges: some counts and messages complete it
pub record MayFill (base : ℕ) (table octets : List ℕ) : Type 0 where
  pub counts : Counts
  pub messages : List ℕ
  pub within : InRanges (lent base counts table octets messages)

pub record RowFills (base : ℕ) (all : List ℕ) (row : Row) (table octets new_table new_octets : List ℕ) : Type 0 where
  pub fills : (c : Counts) (messages : List ℕ) → InRanges (lent base c table octets messages)
      → CellsNow (lent base c table octets messages) (lent base c new_table new_octets messages)
      (filled_row all row (cells_of base table octets))

pub record RowsFill (base : ℕ) (all : List ℕ) (rows : List Row) (table octets new_table new_octets : List ℕ) : Type 0 where
  pub fills : (c : Counts) (messages : List ℕ) → InRanges (lent base c table octets messages)
      → CellsNow (lent base c table octets messages) (lent base c new_table new_octets messages)
      (filled_rows all rows table_rows (cells_of base table octets))
