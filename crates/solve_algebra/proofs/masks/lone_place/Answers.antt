-- `solve_algebra::lone_place` meets its contract: the first place, where nothing is left without it. Assumes nothing.
use Rattle.solve_algebra.proofs.Places.{lone-one, lone-two, lone-none}
use Rattle.solve_algebra.proofs.masks.lone_place.Goals as goal
use Rattle.solve_algebra.proofs.masks.lone_place.Goals.{else-place-lt-PLACES-via-then-place-lt-PLACES+else-first_place-lt-PLACES, else-place-lt-PLACES-via-else-place-lt-PLACES}

pub returns-then-first_place-lt-PLACES : goal.returns-then-first_place-lt-PLACES
returns-then-first_place-lt-PLACES c = search lone-two

pub returns : goal.returns
returns c =
    elim c.else-place-lt-PLACES.branch [
      | else-place-lt-PLACES-via-then-place-lt-PLACES+else-first_place-lt-PLACES w ↦ search lone-one
      | else-place-lt-PLACES-via-else-place-lt-PLACES w ↦ search lone-none
    ]
