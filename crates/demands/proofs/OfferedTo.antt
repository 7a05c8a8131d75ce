-- What an offer answers of a session that is seen as a given view: for worked instances, in which the view is computed. Assumes
-- nothing.
use Rattle.std.proofs.Common.{Result, Ok, Err}
use Prim.Native.Nat.{ℕ, ◌<◌}
use mathlib.Core.Path.{◌≡◌, refl, sym, ap, subst, ◌∙◌}
use mathlib.Core.List.{List}
use lib.ListN.{length}
use native.Mathlib.Omega.{arith}
use Rattle.length.specs.Answers.{Answer, done, refused, afterwards}
use Rattle.length.specs.declared.Refusal.{Refusal}
use Rattle.session.specs.View.{View}
use Rattle.session.specs.Offer as offers
use Rattle.session_held.specs.declared.Session.{Session}
use Rattle.session_offer.specs.Outcome.{offered_outcome, accepted_of}
use Rattle.session_calls.specs.Receiver.{SeenAs, OfferOwes}
use Rattle.session_calls.specs.declared.Returned.{Returned}
use Rattle.demands.specs.Common.History.{after_move}
use Rattle.demands.specs.Demand3.Feeding.{Near, datagram_at, Offers}
use Rattle.demands.proofs.Calling.{offer-is, offered-seen}

answer-accepted : (x : Result (Unit {0}) Refusal) → offered_outcome x ≡ done tt → x ≡ Ok tt
answer-accepted (Ok x) e = refl
answer-accepted (Err why) e = let z : ◌≡◌ {A = ℕ} 0 1 = cc in absurd (omega arith)

answer-refused : (x : Result (Unit {0}) Refusal) (why : Refusal) → offered_outcome x ≡ refused why → x ≡ Err why
answer-refused (Ok x) why e = let z : ◌≡◌ {A = ℕ} 0 1 = cc in absurd (omega arith)
answer-refused (Err x) why e = cc

-- an offer to a session that is seen as this view
module _ {view : View} {s : Session} (seen : SeenAs view s) {octets : List ℕ} {r : Returned (Unit {0})} (owes : OfferOwes s octets r) where
  outcome-is : offered_outcome r.answer ≡ accepted_of (offers.offer octets view)
  outcome-is = owes.answer ∙ ap accepted_of (offer-is seen octets)

  pub call-accepted : {mid : View} → offers.offer octets view ≡ done mid → r.answer ≡ Ok tt
  call-accepted is = answer-accepted r.answer (outcome-is ∙ ap accepted_of is)

  pub call-refused : {why : Refusal} → offers.offer octets view ≡ refused why → r.answer ≡ Err why
  call-refused is = answer-refused r.answer _ (outcome-is ∙ ap accepted_of is)

  pub then-seen : (a : Answer View) → offers.offer octets view ≡ a → SeenAs (afterwards a view) r.session
  unfolding after_move
  then-seen a is = subst (λ (x : Answer View). SeenAs (afterwards x view) r.session) is (offered-seen seen owes)

-- it is an offer of the sender's
pub offers-of : (row datagrams : List (List ℕ)) (S : ℕ) {view : View} {s : Session} {r : Returned (Unit {0})} → S < length row
    → SeenAs view s
    → Near S view → OfferOwes s (datagram_at datagrams S) r → Offers row datagrams S s r
offers-of row datagrams S low seen near owes =
    record {
      sent = low;
      near = subst (Near S) (sym seen.view) near;
      octets = datagram_at datagrams S;
      one = refl;
      call = owes;
    }
