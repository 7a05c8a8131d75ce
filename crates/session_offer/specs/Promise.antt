-- What offer promises, of the session's memory before and after (rules 10.1 to 10.6). Definitions only.
use Rattle.std.specs.Prelude.{◌≡◌, ℕ, List, Result}
use Rattle.length.specs.Answers.{refused, afterwards}
use Rattle.length.specs.declared.Refusal.{Refusal}
use Rattle.session.specs.Offer as offers
use Rattle.session_held.specs.Table.{Lent, view_in}
use Rattle.session_held.specs.Laid.{InRanges}
use Rattle.session_offer.specs.Outcome.{offered_outcome, accepted_of}

-- any octets offered: the answer, and the session after, within its ranges; a refusal leaves the memory unchanged (rule 2.25)
pub record Offers (octets : List ℕ) (before after : Lent) (answer : Result (Unit {0}) Refusal) : Type 0 where
  pub told : offered_outcome answer ≡ accepted_of (offers.offer octets (view_in before))
  pub state : view_in after ≡ afterwards (offers.offer octets (view_in before)) (view_in before)
  pub within : InRanges after
  pub stays : (x : Refusal) → offers.offer octets (view_in before) ≡ refused x → after ≡ before
