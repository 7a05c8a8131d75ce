-- What the datagram reader refuses, an offer to a session within its ranges refuses for the same reason. Assumes nothing.
use Rattle.std.proofs.Common.{Result}
use Prim.Native.Nat.{ℕ}
use mathlib.Core.Path.{◌≡◌, refl, sym, ap, ◌∙◌}
use mathlib.Core.Bool.{true}
use mathlib.Core.List.{List}
use mathlib.Core.Option.{some, none-ne-some}
use Rattle.length.specs.declared.Reason.{Reason}
use Rattle.length.specs.declared.Refusal.{Refusal}
use Rattle.length.specs.Answers.{Answer, done, refused, ◌>>=◌}
use Rattle.length.specs.Tables.{refusal_in}
use Rattle.datagram.specs.Read.{read_datagram}
use Rattle.datagram.specs.Promise.{DatagramReads, read_outcome}
use Rattle.datagram.specs.declared.reader.DatagramRead.{DatagramRead}
use Rattle.session.specs.View.{View}
use Rattle.session.specs.Offer as offers
use Rattle.session_held.specs.Laid.{session_in_ranges}
use Rattle.session_held.specs.declared.Session.{Session}
use Rattle.session_offer.specs.Outcome.{offered_outcome, accepted_of}
use Rattle.session_calls.specs.Receiver.{OfferOwes, offer_of}
use Rattle.session_calls.specs.declared.Returned.{Returned}

-- the first refusal is the whole's
bound : {A B : Type 0} (a : Answer A) (f : A → Answer B) (n : Reason) → refusal_in a ≡ some n → refusal_in (◌>>=◌ a f) ≡ some n
bound (done x) f n e = absurd (none-ne-some n e)
bound (refused why) f n e = e

accepted-refusal : (a : Answer View) → refusal_in (accepted_of a) ≡ refusal_in a
accepted-refusal (done v) = refl
accepted-refusal (refused why) = refl

offer-refused : (octets : List ℕ) (s : Session) (n : Reason) → session_in_ranges s ≡ true → refusal_in (read_datagram octets) ≡ some n
    → refusal_in (offer_of octets s) ≡ some n
unfolding offer_of offers.offer
offer-refused octets s n inside e = rw inside (bound (read_datagram octets) _ n e)

pub offer-reads : {s : Session} {octets : List ℕ} {r : Returned (Unit {0})} {q : Result DatagramRead Refusal} {n : Reason}
    → OfferOwes s octets r
    → DatagramReads octets q → session_in_ranges s ≡ true → refusal_in (read_outcome q) ≡ some n
    → refusal_in (offered_outcome r.answer) ≡ some n
offer-reads {s} {octets} {r} {q} {n} owes told inside e =
    ap refusal_in owes.answer
    ∙ accepted-refusal (offer_of octets s)
    ∙ offer-refused octets s n inside (sym (ap refusal_in told.answer) ∙ e)
