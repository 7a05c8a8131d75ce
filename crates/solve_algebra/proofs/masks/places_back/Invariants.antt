-- `solve_algebra::places_back` meets its contract. The loop's invariant: the mask so far, with the places left, is the whole. Assumes
-- nothing.
use Rattle.solve_algebra.proofs.Back.{Going}
use Rattle.solve_algebra.proofs.masks.places_back.Given as goal

abbrev pub invariant-loop : goal.invariant-loop
invariant-loop l = Going l.at l.n l.m l.mask l.place l.counter
