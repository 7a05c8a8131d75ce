-- `line_code::offer_octets` meets its contract: one law for each answer of offer. Assumes nothing.
use native.Mathlib.Omega.{arith}
use Rattle.line_code.proofs.Offering.{offer-taken, offer-not-taken}
use Rattle.line_code.proofs.steps.offer_octets.Goals as goal

pub returns-in-Ok : goal.returns-in-Ok
returns-in-Ok c = offer-taken c.offer_core-answer.ensures c.in-Ok.is (omega arith)

pub returns-in-Err : goal.returns-in-Err
returns-in-Err c = offer-not-taken c.offer_core-answer.ensures c.in-Err.is c.put_refusal.ensures
