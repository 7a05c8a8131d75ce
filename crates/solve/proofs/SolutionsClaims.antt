-- The claims about the function. Assumes nothing.
use Rattle.solve.specs.SolutionsClaims.{Claims}
use Rattle.solve.proofs.Solve.{means-it}
use Rattle.solve.proofs.Octets.{none-of-octets, one-octets}

pub claims : Claims
claims = record { means_it = means-it; octets_alone = record { none = none-of-octets; one = one-octets } }
