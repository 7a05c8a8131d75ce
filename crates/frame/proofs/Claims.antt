-- The claims of this crate, each from its law. Assumes nothing.
use Rattle.frame.specs.Claims.{Claims}
use Rattle.frame.proofs.Cases.{cases}
use Rattle.frame.proofs.Outcome.{one-outcome}
use Rattle.frame.proofs.HandedOut.{never-17, any-events}
use Rattle.frame.proofs.Line.{honest-line}
use Rattle.frame.proofs.Example.{line-example}

pub claims : Claims
claims =
    record {
      one_outcome = one-outcome;
      never17 = never-17;
      honest_line = honest-line;
      any_events = any-events;
      line_example = line-example;
      cases = cases;
    }
