-- What offer and release promise. The order of refusals of an offer is 17, 2, then reading order, then 8 or 9, then 7 (rule 10.5); that of
-- a release is 17, 16, 10, 13 (rule 12.9). Each promise settles the answer, the session after and the caller's buffer, for every session of
-- the struct's type and every input (rule 28.14). Definitions only.
use Rattle.std.specs.Prelude.{ℕ, ◌≡◌, Bool, cond, List, length}
use Rattle.session_release.specs.declared.Released.{Released}
use Rattle.length.specs.Refusals.{outside_ranges}
use Rattle.length.specs.Answers.{Answer, done, refused, refuse, over}
use Rattle.session.specs.View.{View}
use Rattle.session.specs.Offer as offers
use Rattle.session.specs.Release.{Release, release, view_after_release}
use Rattle.session_held.specs.Table.{lent_by, view_of}
use Rattle.session_held.specs.Laid.{session_in_ranges, InRanges}
use Rattle.session_held.specs.declared.Session.{Session}
use Rattle.session_release.specs.Outcome.{released_outcome, handed_of, octets_handed}
use Rattle.session_offer.specs.Outcome.{offered_outcome, accepted_of}
use Rattle.session_calls.specs.declared.Returned.{Returned}

-- a session within its ranges that has this view
pub record SeenAs (wanted : View) (s : Session) : Type 0 where
  pub within : InRanges (lent_by s)
  pub view : view_of s ≡ wanted

-- the session after a call: it has the resulting view and is within its ranges (rule 13.13); after a refusal it is unchanged (rule 2.25)
abbrev pub After : Answer View → Session → Session → Type 0
After (done view) before after = SeenAs view after
After (refused why) before after = after ≡ before

-- 17 exactly if the session is outside its ranges (rule 13.12); otherwise the answer of the call on the session's view
abbrev pub in_ranges_then : {A : Type 0} → (View → Answer A) → Session → Answer A
in_ranges_then call s = cond (session_in_ranges s) (call (view_of s)) (refuse outside_ranges)

-- ---- offer
unfoldable pub offer_of : List ℕ → Session → Answer View
offer_of octets s = in_ranges_then (offers.offer octets) s

pub record OfferOwes (s : Session) (octets : List ℕ) (r : Returned (Unit {0})) : Type 0 where
  pub answer : offered_outcome r.answer ≡ accepted_of (offer_of octets s)
  pub state : After (offer_of octets s) s r.session

-- ---- release, with leave to skip or without, and with the length of the caller's buffer
unfoldable pub release_of : Bool → ℕ → Session → Answer Release
release_of leave room s = in_ranges_then (release leave room) s

pub record ReleaseOwes (s : Session) (leave : Bool) (old new : List ℕ) (r : Returned Released) : Type 0 where
  pub answer : released_outcome r.answer ≡ handed_of (release_of leave (length old) s)
  pub lent : new ≡ over (octets_handed (release_of leave (length old) s)) old
  pub state : After (view_after_release (release_of leave (length old) s)) s r.session
