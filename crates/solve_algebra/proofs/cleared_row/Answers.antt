-- `solve_algebra::cleared_row` meets its contract. Assumes nothing.
use Rattle.solve_algebra.proofs.Turns.{clears}
use Rattle.solve_algebra.proofs.cleared_row.Goals as goal
use Rattle.solve_algebra.proofs.cleared_row.Goals.{else-not-keeps-via-then-not-keeps+else-has, else-not-keeps-via-else-not-keeps}

pub returns-then-has : goal.returns-then-has
returns-then-has c = search clears

pub returns-else-not-keeps : goal.returns-else-not-keeps
returns-else-not-keeps c =
    elim c.else-not-keeps.branch [
      | else-not-keeps-via-then-not-keeps+else-has w ↦ search clears
      | else-not-keeps-via-else-not-keeps w ↦ search clears
    ]
