-- `solve_code::row_fits` meets its contract. Assumes nothing.
use Rattle.solve_code.proofs.Fitting.{row-columns, row-empty}
use Rattle.solve_code.proofs.row_fits.Goals as goal

pub returns-then-first_place-lt-PLACES : goal.returns-then-first_place-lt-PLACES
returns-then-first_place-lt-PLACES c = search row-columns

pub returns : goal.returns
returns c = search row-empty
