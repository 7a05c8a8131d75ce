-- What the inner functions of offer require and promise: for a datagram that was read, and for one that is accepted. Definitions only.
use Rattle.std.specs.Prelude.{◌≡◌, ℕ, ◌+◌, ◌<◌, ◌≤◌, false, List, length, take, Result}
use Rattle.length.specs.Answers.{refused, afterwards}
use Rattle.length.specs.declared.Refusal.{Refusal}
use Rattle.datagram.specs.Carried.{Carried}
use Rattle.datagram.specs.Claims.{Inside}
use Rattle.datagram.specs.Read.{carried_by}
use Rattle.datagram.specs.declared.reader.Part.{Part}
use Rattle.datagram.specs.declared.kind.Kind.{Kind}
use Rattle.datagram.specs.declared.kind.Kind.TheVariants as kind
use Rattle.session.specs.Cells.{kept_before, kept_ahead}
use Rattle.session.specs.Held.{held_at}
use Rattle.session.specs.View.{number_at}
use Rattle.session.specs.Offer as offers
use Rattle.session_held.specs.Table.{Lent, held_of, view_in}
use Rattle.session_held.specs.Laid.{InRanges}
use Rattle.session_offer.specs.Outcome.{offered_outcome, accepted_of}

-- ---- of a datagram's items: how many are spares, how many are messages; and n, which is 0 with spares
abbrev pub spare_count : Kind → ℕ → ℕ
spare_count kind.Spares count = count
spare_count (kind.Parity n) count = 0

abbrev pub message_count : Kind → ℕ → ℕ
message_count kind.Spares count = 0
message_count (kind.Parity n) count = count

abbrev pub covered_of : Kind → ℕ
covered_of kind.Spares = 0
covered_of (kind.Parity n) = n

-- what the datagram carries
abbrev pub carried_items : List ℕ → ℕ → Part → Kind → ℕ → List Part → Carried
carried_items s number packet kind count items =
    carried_by s (record { number = number; packet = packet; kind = kind; items = take count items })

-- ---- an accepted datagram
-- a datagram that was read may be accepted at distance d: the distance is at most 31, and none was accepted there before (rules 10.1 and
-- 10.4)
pub record MayBeAccepted (l : Lent) (s : List ℕ) (number d : ℕ) (packet : Part) (kind : Kind) (count : ℕ) (items : List Part) : Type 0 where
  pub near : d < kept_ahead
  pub place : number ≡ number_at l.base (kept_before + d)
  pub unmarked : (held_at (held_of l.base l.table l.messages) d).accepted ≡ false
  pub inside : Inside s packet kind count items
  pub there : count ≤ length items

-- the session after an accepted datagram (rule 10.6)
pub record AcceptedAt (datagram : Carried) (d : ℕ) (before after : Lent) : Type 0 where
  pub state : view_in after ≡ offers.accept d datagram (view_in before)
  pub within : InRanges after

-- ---- a datagram that was read, offered (rules 10.1 to 10.4)
pub record OffersRead (datagram : Carried) (before after : Lent) (answer : Result (Unit {0}) Refusal) : Type 0 where
  pub told : offered_outcome answer ≡ accepted_of (offers.offered datagram (view_in before))
  pub state : view_in after ≡ afterwards (offers.offered datagram (view_in before)) (view_in before)
  pub within : InRanges after
  pub stays : (x : Refusal) → offers.offered datagram (view_in before) ≡ refused x → after ≡ before
