-- The promises of the functions that make the table of equations (rule 1.16), a record for each. They read only the session's table, so the
-- promises hold whatever its octets are. Definitions only.
use Rattle.std.specs.Prelude.{◌≡◌, ℕ, ◌^◌, Bool, cond, List, bit_and}
use Rattle.solve_algebra.specs.Masks.{mask_of}
use Rattle.solve_algebra.specs.declared.Row.{Row}
use Rattle.session_held.specs.Table.{cells_of, held_of}
use Rattle.solve.specs.Table.{equation_at, unknown_mask, start_rows}

-- the mask of a place, or no place if it is known
pub record OneUnless (known : Bool) (place r : ℕ) : Type 0 where
  pub answer : r ≡ cond known 0 (2 ^ place)

-- the mask of the unknown numbers
pub record UnknownMade (base : ℕ) (table : List ℕ) (r : ℕ) : Type 0 where
  pub answer : (octets : List ℕ) → r ≡ unknown_mask (cells_of base table octets)

-- the members of equation e that are in a mask (rule 4.12)
pub record EquationMade (base : ℕ) (table : List ℕ) (unknown e r : ℕ) : Type 0 where
  pub answer : (messages : List ℕ) → r ≡ bit_and (mask_of (equation_at (held_of base table messages) e).members) unknown

-- the table of all equations
pub record TableLaid (base : ℕ) (table : List ℕ) (r : List Row) : Type 0 where
  pub answer : (octets messages : List ℕ) → r ≡ start_rows (cells_of base table octets) (held_of base table messages)
