-- The claims of the receiving session's calls (rules 2.25, 12.2, 13.13 and 28.14). Statements only.
use Rattle.std.specs.Prelude.{ℕ, ◌<◌, ◌≡◌, Bool, true, List, length, Ok}
use Rattle.session_release.specs.declared.Released.{Released}
use Rattle.length.specs.Answers.{done, refused}
use Rattle.length.specs.declared.Refusal.{Refusal}
use Rattle.datagram.specs.Read.{DatagramParts, read_datagram}
use Rattle.session.specs.Cells.{cell_at, kept_before, kept_ahead}
use Rattle.session.specs.Reached.{Known}
use Rattle.session.specs.View.{View, distance}
use Rattle.session.specs.Offer as offers
use Rattle.session_held.specs.Table.{view_of}
use Rattle.session_held.specs.Laid.{session_in_ranges}
use Rattle.session_held.specs.Promise.{Fresh}
use Rattle.session_held.specs.declared.ReleaseKind.TheVariants.{Lost}
use Rattle.session_held.specs.declared.Session.{Session}
use Rattle.session_calls.specs.Receiver.{OfferOwes, offer_of, ReleaseOwes, release_of}
use Rattle.session_calls.specs.declared.Returned.{Returned}

-- a refused call returns the session unchanged and does not touch the caller's buffer (rule 2.25)
pub record RefusedStays : Type 0 where
  pub offer : {s : Session} {octets : List ℕ} {r : Returned (Unit {0})} (x : Refusal) → OfferOwes s octets r → offer_of octets s ≡ refused x
      → r.session ≡ s
  pub release : {s : Session} {leave : Bool} {old new : List ℕ} {r : Returned Released} (x : Refusal) → ReleaseOwes s leave old new r
      → release_of leave (length old) s ≡ refused x → (r.session ≡ s) × (new ≡ old)

-- two outcomes that a promise allows are equal (rule 28.14)
pub record OneOutcome : Type 0 where
  pub offer : {s : Session} {octets : List ℕ} {r q : Returned (Unit {0})} → OfferOwes s octets r → OfferOwes s octets q → r ≡ q
  pub release : {s : Session} {leave : Bool} {old new other : List ℕ} {r q : Returned Released} → ReleaseOwes s leave old new r
      → ReleaseOwes s leave old other q → (r ≡ q) × (new ≡ other)
  pub fresh : {r q : Session} → Fresh r → Fresh q → r ≡ q

-- what an accepted offer does to the session that the rules describe (rule 10.1)
pub record AcceptedOffer (octets : List ℕ) (view after : View) : Type 0 where
  pub parts : DatagramParts
  pub read : read_datagram octets ≡ done parts
  pub near : distance view.base parts.number < kept_ahead
  -- its number is marked (rule 10.10)
  pub marked : length view.held ≡ kept_ahead → offers.accepted_at after (distance view.base parts.number) ≡ true
  -- what is known is unchanged (rule 9.9)
  pub known : (p : ℕ) → Known view.cells p → cell_at after.cells p ≡ cell_at view.cells p
  -- an offer changes neither counts nor base (rule 12.13)
  pub counts : after.counts ≡ view.counts
  pub base : after.base ≡ view.base

-- a known base is released, with leave or without, and never lost (rule 12.2)
abbrev pub KnownNeverLost : Type 0
KnownNeverLost = (s : Session) (leave : Bool) (old new : List ℕ) (r : Returned Released) (number note size : ℕ) → ReleaseOwes s leave old new r
    → Known (view_of s).cells kept_before → r.answer ≡ Ok (record { kind = Lost; number = number; note = note; size = size }) → ⊥

pub record Claims : Type 0 where
  pub refused_stays : RefusedStays
  pub one_outcome : OneOutcome
  pub accepted : (octets : List ℕ) (view after : View) → offers.offer octets view ≡ done after → AcceptedOffer octets view after
  -- a session within its ranges stays so in every call, so a session that only the library's calls made is never refused with 17 (rules
  -- 9.12 and 13.13)
  pub after_offer : {s : Session} {octets : List ℕ} {r : Returned (Unit {0})} → OfferOwes s octets r → session_in_ranges s ≡ true
      → session_in_ranges r.session ≡ true
  pub after_release : {s : Session} {leave : Bool} {old new : List ℕ} {r : Returned Released} → ReleaseOwes s leave old new r
      → session_in_ranges s ≡ true → session_in_ranges r.session ≡ true
  pub known_never_lost : KnownNeverLost
