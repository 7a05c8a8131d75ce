-- The claim about the table of equations. Statements alone.
use Rattle.std.specs.Prelude.{◌≡◌, ℕ, List}
use Rattle.solve_algebra.specs.declared.Row.{Row}
use Rattle.solve_code.specs.RowsPromise.{TableLaid}

-- two tables that the promise allows are equal (rule 28.14)
abbrev pub OneOutcome : Type 0
OneOutcome = (base : ℕ) (table : List ℕ) (r q : List Row) → TableLaid base table r → TableLaid base table q → r ≡ q

pub record Claims : Type 0 where
  pub one_outcome : OneOutcome
