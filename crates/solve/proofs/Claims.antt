-- The claims of this crate, each proved by a law. Assumes nothing.
use Rattle.solve.specs.Claims.{FillsTrue, Claims}
use Rattle.solve.proofs.Padded.{padded-zeros}
use Rattle.solve.proofs.After.{known-one, one_known, none-usable, holds-reached}
use Rattle.solve.proofs.Twice.{one-outcome, nothing-more, no_less}
use Rattle.solve.proofs.Keeping.{solved-sound}
use Rattle.solve.proofs.Honest.{sent, sent-solution, honest-fill, solved-right}
use Rattle.solve.proofs.Together.{together-one}

fills-true : FillsTrue
fills-true =
    record {
      fill = λ row cells messages after h s. honest-fill row cells messages h after s;
      zeros = padded-zeros;
      stays = λ row cells messages after h s. solved-right row cells messages h after s;
    }

pub claims : Claims
claims =
    record {
      one_outcome = one-outcome;
      stays_sound = λ view after s t. solved-sound s t;
      nothing_more = nothing-more;
      known_exactly = λ cells messages after s p. (known-one s p, one_known s p);
      none_usable = λ cells messages after s. none-usable s;
      holds_reached = λ cells messages after distinct s. holds-reached s distinct;
      no_less = no_less;
      together_one = together-one;
      never_refused = λ row cells messages h. (sent row cells messages h, sent-solution row cells messages h);
      fills_true = fills-true;
    }
