-- The public calls on a session within its ranges: each gives what the definitions make of the session's view. Assumes nothing.
use Rattle.std.proofs.Common.{Result, Ok, Err}
use Prim.Native.Nat.{ℕ}
use mathlib.Core.Path.{◌≡◌, refl, sym, ap, subst, ◌∙◌}
use mathlib.Core.Bool.{Bool, cond}
use mathlib.Core.List.{List, ◌++◌}
use lib.ListN.{length, take, drop}
use lib.Seq.{take-append_seam}
use native.Mathlib.Omega.{arith}
use Rattle.length.specs.Refusals.{outside_ranges}
use Rattle.length.specs.Answers.{Answer, done, refused, refuse, over}
use Rattle.length.specs.declared.Refusal.{Refusal}
use Rattle.session.specs.View.{View, fresh_view}
use Rattle.session.specs.Offer as offers
use Rattle.session.specs.Release.{Release, release, view_after_release}
use Rattle.session_held.specs.Table.{state_of, lent_by, view_of}
use Rattle.session_held.specs.Laid.{InRanges}
use Rattle.session_held.specs.Promise.{Fresh}
use Rattle.session_held.specs.declared.ReleaseKind.{ReleaseKind}
use Rattle.session_held.specs.declared.Session.{Session}
use Rattle.session_held.proofs.Laws.{in-ranges-true, session-in-ranges}
use Rattle.session_release.specs.Outcome.{Handed, released_outcome, handed_of, octets_handed}
use Rattle.session_release.specs.declared.Released.{Released}
use Rattle.session_offer.specs.Outcome.{offered_outcome, accepted_of}
use Rattle.session_calls.specs.Receiver.{SeenAs, After, in_ranges_then, offer_of, OfferOwes, release_of, ReleaseOwes}
use Rattle.session_calls.specs.declared.Returned.{Returned}
use Rattle.session_calls.proofs.Outcomes.{after-refused}

pub fresh-seen : (s : Session) → Fresh s → SeenAs fresh_view s
fresh-seen s f = record { within = session-in-ranges s f.ranges f.sized; view = f.view }

-- ---- what the answers tell
accepted-told : (r : Result (Unit {0}) Refusal) → offered_outcome r ≡ done tt → r ≡ Ok tt
accepted-told (Ok x) e = refl
accepted-told (Err why) e = let z : ◌≡◌ {A = ℕ} 0 1 = cc in absurd (omega arith)

-- a release that is answered with a number: what it handed out
pub record HandedOut (x : Release) (kind : ReleaseKind) (number size : ℕ) (new : List ℕ) : Type 0 where
  pub same_kind : state_of kind ≡ x.kind
  pub same_number : number ≡ x.number
  pub octets : take size new ≡ x.octets

-- what a release came to: a number, or a refusal
number-told : (r : Result Released Refusal) (x : Release) → released_outcome r ≡ handed_of (done x)
    → (kind : ReleaseKind) × (number : ℕ) × (note : ℕ) × (size : ℕ) × (r ≡ Ok (record { kind = kind; number = number; note = note; size = size }))
number-told (Ok left) x e = (left.kind, left.number, left.note, left.size, refl)
number-told (Err why) x e = let z : ◌≡◌ {A = ℕ} 0 1 = cc in absurd (omega arith)

refused-told : (r : Result Released Refusal) (why : Refusal) → released_outcome r ≡ handed_of (refused why) → r ≡ Err why
refused-told (Ok left) why e = let z : ◌≡◌ {A = ℕ} 0 1 = cc in absurd (omega arith)
refused-told (Err x) why e = cc

module _ {s : Session} (within : InRanges (lent_by s)) where
  then_is : {A : Type 0} (call : View → Answer A) → in_ranges_then call s ≡ call (view_of s)
  then_is call = ap (λ (b : Bool). cond b (call (view_of s)) (refuse outside_ranges)) (in-ranges-true within)

  -- ---- offer
  offer-is : (octets : List ℕ) → offer_of octets s ≡ offers.offer octets (view_of s)
  unfolding offer_of
  offer-is octets = then_is (offers.offer octets)

  -- an offer that is accepted
  pub offer-done : {octets : List ℕ} {r : Returned (Unit {0})} {after : View} → OfferOwes s octets r → offers.offer octets (view_of s) ≡ done after
      → (r.answer ≡ Ok tt) × SeenAs after r.session
  offer-done {octets} {r} {after} owes is =
      let all = offer-is octets ∙ is in (
        accepted-told r.answer (owes.answer ∙ ap accepted_of all),
        subst (λ (a : Answer View). After a s r.session) all owes.state,
      )

  -- ---- release
  release-is : (leave : Bool) (room : ℕ) → release_of leave room s ≡ release leave room (view_of s)
  unfolding release_of
  release-is leave room = then_is (release leave room)

  module _ {leave : Bool} {old new : List ℕ} {r : Returned Released} (owes : ReleaseOwes s leave old new r) where
    pub release-refused : {why : Refusal} → release leave (length old) (view_of s) ≡ refused why
        → (r.answer ≡ Err why) × (r.session ≡ s)
    release-refused {why} is =
        let all = release-is leave (length old) ∙ is in (
          refused-told r.answer why (owes.answer ∙ ap handed_of all),
          after-refused (view_after_release (release_of leave (length old) s)) why owes.state (ap view_after_release all),
        )

    pub release-done : {x : Release} → release leave (length old) (view_of s) ≡ done x
        → ((kind : ReleaseKind) × (number : ℕ) × (note : ℕ) × (size : ℕ) × (r.answer ≡ Ok (record { kind = kind; number = number; note = note; size = size })))
        × SeenAs x.after r.session
    release-done {x} is =
        let all = release-is leave (length old) ∙ is in (
          number-told r.answer x (owes.answer ∙ ap handed_of all),
          subst (λ (a : Answer Release). After (view_after_release a) s r.session) all owes.state,
        )

    pub release-handed : {x : Release} {kind : ReleaseKind} {number note size : ℕ} → release leave (length old) (view_of s) ≡ done x
        → r.answer ≡ Ok (record { kind = kind; number = number; note = note; size = size }) → HandedOut x kind number size new
    release-handed {x} {kind} {number} {note} {size} is answer =
        let all = release-is leave (length old) ∙ is in
        let told : released_outcome (Ok (record { kind = kind; number = number; note = note; size = size })) ≡ handed_of (done x) =
        ap released_outcome (sym answer) ∙ owes.answer ∙ ap handed_of all in
        let same : ◌≡◌ {A = Handed} (record { kind = state_of kind; number = number; note = note; size = size })
        (record { kind = x.kind; number = x.number; note = x.note; size = length x.octets }) = cc in
        let laid : new ≡ x.octets ++ drop (length x.octets) old =
        owes.lent ∙ ap (λ (a : Answer Release). over (octets_handed a) old) all in
        record {
          same_kind = ap (λ (h : Handed). h.kind) same;
          same_number = ap (λ (h : Handed). h.number) same;
          octets = rw (laid, ap (λ (h : Handed). h.size) same) (take-append_seam x.octets (drop (length x.octets) old));
        }
