-- The public calls of the receiving session, on plain values: outside the ranges the very session comes back with refusal 17,
-- within them the core's promise is the call's. Assumes nothing.
use Rattle.std.proofs.Common.{Result, Err}
use Prim.Native.Nat.{ℕ}
use mathlib.Core.Path.{◌≡◌, refl, sym, ap, subst, ◌∙◌}
use mathlib.Core.Bool.{Bool, true, false}
use mathlib.Core.List.{List}
use lib.ListN.{length}
use Rattle.length.specs.Refusals.{outside_ranges}
use Rattle.length.specs.Answers.{Answer, done, refused, afterwards}
use Rattle.length.specs.Promise.{RefusalMade}
use Rattle.length.specs.declared.Refusal.{Refusal}
use Rattle.session.specs.View.{View}
use Rattle.session.specs.Offer as offers
use Rattle.session.specs.Release.{Release, release, view_after_release}
use Rattle.session_held.specs.Table.{Lent, lent, lent_by, view_of}
use Rattle.session_held.specs.Laid.{session_in_ranges, InRanges}
use Rattle.session_held.specs.Promise.{Sized}
use Rattle.session_held.specs.declared.Counts.{Counts}
use Rattle.session_held.specs.declared.Session.{Session}
use Rattle.session_held.proofs.Laws.{session-in-ranges}
use Rattle.session_release.specs.Promise.{Releases}
use Rattle.session_release.specs.declared.Released.{Released}
use Rattle.session_offer.specs.Promise.{Offers}
use Rattle.session_calls.specs.Receiver.{SeenAs, After, offer_of, OfferOwes, release_of, ReleaseOwes}

-- the session put together again
abbrev pub session_of : ℕ → Counts → List ℕ → List ℕ → List ℕ → Session
session_of b c t o g = record { base = b; counts = c; table = t; octets = o; messages = g }

-- the session that a core hands back
pub same-session : {s : Session} {b : ℕ} {c : Counts} {t o g : List ℕ} → lent b c t o g ≡ lent_by s → session_of b c t o g ≡ s
same-session e = ap (λ (x : Lent). session_of x.base x.counts x.table x.octets x.messages) e

-- the state after a call: by what it came to
pub stands : {A : Type 0} (a : Answer A) (seen : A → View) (viewed : Answer View) (s r : Session)
    → ((x : A) → a ≡ done x → SeenAs (seen x) r) → ((x : Refusal) → a ≡ refused x → r ≡ s)
    → ((x : A) → a ≡ done x → viewed ≡ done (seen x)) → ((x : Refusal) → a ≡ refused x → viewed ≡ refused x)
    → After viewed s r
stands (done x) seen viewed s r did stay is-done is-refused = subst (λ (v : Answer View). After v s r) (sym (is-done x refl)) (did x refl)
stands (refused x) seen viewed s r did stay is-done is-refused =
    subst (λ (v : Answer View). After v s r) (sym (is-refused x refl)) (stay x refl)

-- ---- offer
module _ {s : Session} {octets : List ℕ} {ok : Bool} (e : ok ≡ session_in_ranges s) where
  pub offer-outside : {why : Refusal} → RefusalMade outside_ranges why → ok ≡ false
      → OfferOwes s octets (record { session = s; answer = (Err why) })
  unfolding offer_of
  offer-outside made out =
      let outside : session_in_ranges s ≡ false = sym e ∙ out in
      record { answer = rw (outside, made.answer); state = rw outside refl }

  pub offer-inside : {b : ℕ} {c : Counts} {t o g : List ℕ} {answer : Result (Unit {0}) Refusal} → ok ≡ true
      → Offers octets (lent_by s) (lent b c t o g) answer
      → OfferOwes s octets (record { session = session_of b c t o g; answer = answer })
  unfolding offer_of
  offer-inside {b} {c} {t} {o} {g} yes-in m =
      let inside : session_in_ranges s ≡ true = sym e ∙ yes-in in
      record {
        answer = rw inside m.told;
        state =
            rw inside
            (stands (offers.offer octets (view_of s)) (λ v. v) _ s (session_of b c t o g)
            (λ v is. record { within = m.within; view = m.state ∙ ap (λ (x : Answer View). afterwards x (view_of s)) is })
            (λ x is. same-session (m.stays x is))
            (λ v is. is)
            (λ x is. is));
      }

-- ---- release
module _ {s : Session} {leave : Bool} {old : List ℕ} {ok : Bool} (e : ok ≡ session_in_ranges s) where
  pub release-outside : {why : Refusal} → RefusalMade outside_ranges why → ok ≡ false
      → ReleaseOwes s leave old old (record { session = s; answer = Err why })
  unfolding release_of
  release-outside made out =
      let outside : session_in_ranges s ≡ false = sym e ∙ out in
      record {
        answer = rw (outside, made.answer);
        lent = rw outside;
        state = rw outside refl;
      }

  pub release-inside : {new : List ℕ} {b : ℕ} {c : Counts} {t o g : List ℕ} {answer : Result Released Refusal} → ok ≡ true
      → Releases leave (lent_by s) (lent b c t o g) old new answer
      → ReleaseOwes s leave old new (record { session = session_of b c t o g; answer = answer })
  unfolding release_of
  release-inside {new} {b} {c} {t} {o} {g} yes-in m =
      let inside : session_in_ranges s ≡ true = sym e ∙ yes-in in
      record {
        answer = rw inside m.told;
        lent = rw inside m.written;
        state =
            rw inside
            (stands (release leave (length old) (view_of s)) (λ a. a.after) _ s (session_of b c t o g)
            (λ a is.
            record {
              within = m.within;
              view = m.state ∙ ap (λ (x : Answer Release). afterwards (view_after_release x) (view_of s)) is;
            })
            (λ x is. same-session (m.stays x is))
            (λ a is. ap view_after_release is)
            (λ x is. ap view_after_release is));
      }

-- ---- what the cores require
pub within-session : {s : Session} {ok : Bool} → ok ≡ session_in_ranges s → ok ≡ true → Sized s → InRanges (lent_by s)
within-session {s} e yes-in sized = session-in-ranges s (sym e ∙ yes-in) sized

pub ruleset calls = (offer-outside, offer-inside, release-outside, release-inside)
