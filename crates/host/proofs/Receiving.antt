-- The host's calls on a receiving session, on plain values: what the library's call promises, encoded as numbers. Assumes nothing.
use Rattle.std.proofs.Common.{Result}
use Rattle.length.specs.declared.Refusal.{Refusal}
use Prim.Native.Nat.{ℕ}
use mathlib.Core.Path.{◌≡◌, refl, sym, ap, ◌∙◌}
use mathlib.Core.Bool.{Bool, true, false}
use mathlib.Core.List.{List}
use lib.ListN.{length}
use Rattle.length.specs.Refusals.{outside_ranges, number_of}
use Rattle.session.specs.View.{View}
use Rattle.session_held.specs.Table.{lent_by, places}
use Rattle.session_held.specs.Laid.{InRanges, session_in_ranges}
use Rattle.session_held.specs.Slots.{kept_octets, message_octets}
use Rattle.session_held.proofs.Laws.{session-in-ranges, in-ranges-true}
use Rattle.session_release.specs.Promise.{Releases}
use Rattle.session_release.specs.declared.Released.{Released}
use Rattle.session_offer.specs.Promise.{Offers}
use Rattle.session_calls.specs.Receiver.{offer_of}
use Rattle.session_calls.proofs.Laws.{offer-outside, offer-inside, release-outside, release-inside}
use Rattle.host_answers.specs.Answers.{told, release_number, OfferedTold, ReleasedTold}
use Rattle.host_answers.specs.declared.answers.Answered.{Answered}
use Rattle.host_answers.specs.declared.answers.Number.{Number}
use Rattle.host_answers.proofs.Laws.{told-mapped}
use Rattle.host.specs.Receiver.{session_in, RangesHosted, OfferHosted, ReleaseHosted}
use Rattle.host.specs.declared.receiver.Head.{Head}

-- ---- offer
pub offer-hosted : {octets : List ℕ} {h : Head} {t o g t₂ o₂ g₂ : List ℕ} {answer : Result (Unit {0}) Refusal} {r : Answered}
    → InRanges (lent_by (session_in h t o g))
    → Offers octets (lent_by (session_in h t o g)) (lent_by (session_in h t₂ o₂ g₂)) answer
    → OfferedTold answer r
    → OfferHosted octets h t o g t₂ o₂ g₂ r
offer-hosted {octets} {h} {t} {o} {g} {t₂} {o₂} {g₂} within m from =
    let owes = offer-inside {s = session_in h t o g} {octets = octets} {ok = true} (sym (in-ranges-true within)) refl m in
    record {
      answer = from.is ∙ ap told owes.answer ∙ told-mapped (λ (view : View). tt) (offer_of octets (session_in h t o g));
      state = owes.state;
    }

pub offer-refused : {octets : List ℕ} {h : Head} {t o g : List ℕ} {ok : Bool} {number : ℕ} → RangesHosted h t o g ok → ok ≡ false
    → number ≡ number_of outside_ranges → OfferHosted octets h t o g t o g (record { refusal = number; place = 0 })
offer-refused {octets} {h} {t} {o} {g} e out is =
    let owes = offer-outside {s = session_in h t o g} {octets = octets} e.answer (record { answer = refl }) out in
    rw is
    (record {
      answer = ap told owes.answer ∙ told-mapped (λ (view : View). tt) (offer_of octets (session_in h t o g));
      state = owes.state;
    })

-- ---- release
pub release-hosted : {leave : Bool} {h after : Head} {t o g t₂ o₂ g₂ old new : List ℕ} {answer : Result Released Refusal} {left : Number}
    → InRanges (lent_by (session_in h t o g))
    → Releases leave (lent_by (session_in h t o g)) (lent_by (session_in after t₂ o₂ g₂)) old new answer
    → ReleasedTold answer left
    → ReleaseHosted leave h t o g old t₂ o₂ g₂ new (record { head = after; left = left })
release-hosted {leave} {h} {after} {t} {o} {g} {old = old} within m from =
    let owes = release-inside {s = session_in h t o g} {leave = leave} {old = old} {ok = true} (sym (in-ranges-true within)) refl m in
    record { answer = from.is ∙ ap release_number owes.answer; lent = owes.lent; state = owes.state }

pub release-refused : {leave : Bool} {h : Head} {t o g old : List ℕ} {ok : Bool} {number : ℕ} → RangesHosted h t o g ok → ok ≡ false
    → number ≡ number_of outside_ranges
    → ReleaseHosted leave h t o g old t o g old
    (record { head = h; left = record { refusal = number; kind = 0; number = 0; note = 0; place = 0; size = 0 } })
release-refused {leave} {h} {t} {o} {g} {old} e out is =
    let owes = release-outside {s = session_in h t o g} {leave = leave} {old = old} e.answer (record { answer = refl }) out in
    rw is (record { answer = ap release_number owes.answer; lent = owes.lent; state = owes.state })

-- ---- what the calls require
pub within-hosted : {h : Head} {t o g : List ℕ} {ok : Bool} → RangesHosted h t o g ok → ok ≡ true → InRanges (lent_by (session_in h t o g))
within-hosted {h} {t} {o} {g} e inside = session-in-ranges (session_in h t o g) (sym e.answer ∙ inside) e.sized

pub ranges-hosted : {h : Head} {t o g : List ℕ} {ok : Bool} → ok ≡ session_in_ranges (session_in h t o g) → length t ≡ places
    → length o ≡ kept_octets → length g ≡ message_octets → RangesHosted h t o g ok
ranges-hosted e long octets messages = record { answer = e; sized = record { table = long; octets = octets; messages = messages } }

pub ruleset refusing = (offer-refused, release-refused)
