-- One call in place of two: a law of `session_calls`, and demand 2's, that what is known leaves as it was known. Assumes nothing.
use mathlib.Core.Path.{ap, ◌∙◌}
use Rattle.session_calls.proofs.Claims as sessions
use Rattle.demands.specs.Common.History.{Left, is_lost}
use Rattle.demands.specs.Requests.OneCall.{OneCall}
use Rattle.demands.proofs.Demand2.{demand-2}

pub one-call : OneCall
one-call =
    record {
      known_never_lost = (sessions.claims).known_never_lost;
      none_between = λ begins called more p small known past low.
          ap (λ (x : Left). is_lost x.kind) ((demand-2.keeps begins called more p small known).leaves past low) ∙ known;
    }
