-- The claims about a reduced table: which equations have a solution, and which values they determine (rules 14.2 and 14.6).
-- Statements alone.
use Rattle.std.specs.Prelude.{ℕ, ◌<◌, ◌≡◌, ◌↔◌, Bool}
use Rattle.solve_algebra.specs.Systems.{Satisfies, Determined, HasAlone, Reduced, Consistent}

-- some values satisfy the equations exactly if every empty row asks for zero (rule 14.6)
abbrev pub SolvableRows : Type 0
SolvableRows = (n m : ℕ) (rows : ℕ → ℕ → Bool) (asked : ℕ → ℕ) → Reduced n m rows
    → ((values : ℕ → ℕ) × Satisfies n m rows asked values) ↔ Consistent n m rows asked

-- then they allow only one value for column p exactly if p is alone in a row (rule 14.2)
abbrev pub OneValueRow : Type 0
OneValueRow = (n m : ℕ) (rows : ℕ → ℕ → Bool) (asked : ℕ → ℕ) → Reduced n m rows → Consistent n m rows asked
    → (p : ℕ) → p < n → Determined n m rows asked p ↔ HasAlone n m rows p

-- that value is what the row asks for
abbrev pub WhatIsAsked : Type 0
WhatIsAsked = (n m : ℕ) (rows : ℕ → ℕ → Bool) (asked values : ℕ → ℕ) → Satisfies n m rows asked values
    → (p : ℕ) → p < n → (found : HasAlone n m rows p) → values p ≡ asked found.row

pub record Claims : Type 0 where
  pub solvable : SolvableRows
  pub one_value : OneValueRow
  pub what_is_asked : WhatIsAsked
