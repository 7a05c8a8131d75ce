-- A known number that leaves, computed from a fresh session. Assumes nothing.
use Rattle.std.proofs.Common.{Result, Ok}
use Rattle.length.specs.declared.Refusal.{Refusal}
use Prim.Native.Nat.{ℕ}
use mathlib.Core.Path.{◌≡◌, refl, ap, subst, ◌∙◌}
use mathlib.Core.Bool.{true}
use mathlib.Core.List.{List, [], ◌∷◌}
use Rattle.octets.specs.Place.{tab}
use Rattle.octets.specs.ExclusiveOr.{xor_at, exclusive_or}
use Rattle.length.specs.Answers.{Answer, done, over}
use Rattle.length.specs.Length.{length_at, allowed, length_within}
use Rattle.datagram.specs.Carried.{spares, Carried}
use Rattle.datagram.specs.Read.{octet_at, item_at, items_at, end_of, spares_at, parity_at, extra_at, number_of, whole_of, read_datagram}
use Rattle.datagram.specs.Read.{carried_by}
use Rattle.session.specs.Cells.{received, kept_before}
use Rattle.session.specs.Members.{members_of}
use Rattle.session.specs.Repair.{passing, usable, first_usable, mended, fill, repair_f, repair}
use Rattle.session.specs.Held.{messages_of, messages_in_row, held_messages}
use Rattle.session.specs.Reached.{Known}
use Rattle.session.specs.View.{View, fresh_view}
use Rattle.session.specs.Offer as offers
use Rattle.session.specs.Offer.{keep, keep_spares, accept, offered}
use Rattle.session.specs.Release as releases
use Rattle.session_held.specs.declared.Session.{Session}
use Rattle.session_held.specs.declared.ReleaseKind.TheVariants.{Received}
use Rattle.session_release.specs.Outcome.{handed_of, octets_handed}
use Rattle.session_release.specs.declared.Released.{Released}
use Rattle.session_release.proofs.Laws.{released-told}
use Rattle.session_calls.specs.declared.Returned.{Returned}
use Rattle.demands.specs.Common.Calls as calls
use Rattle.demands.specs.Common.Calls.{Called, start, ◌then◌, left_by}
use Rattle.demands.specs.Demand2.Demand2 as demand
use Rattle.demands.specs.Sheet.{packet0, datagram0}
use Rattle.demands.specs.PromiseCases.{OfferedThenReleased, KnownLeaves}
use Rattle.demands.proofs.Calling.{fresh-seen, release-is}
use Rattle.demands.proofs.OfferedTo.{call-accepted, then-seen}

abbrev carried0 : Carried
carried0 = record { number = 0; packet = packet0; extra = spares [] }

abbrev with0 : View
with0 = accept 0 carried0 fresh_view

takes-0 : offers.offer datagram0 fresh_view ≡ done with0
unfolding offers.offer read_datagram carried_by number_of whole_of extra_at spares_at parity_at items_at item_at length_within octet_at
    allowed end_of
    length_at offered fresh_view
takes-0 = refl

known-0 : Known with0.cells kept_before
unfolding fresh_view accept keep keep_spares tab xor_at exclusive_or members_of passing usable first_usable mended fill repair_f repair
    messages_of
    messages_in_row held_messages
known-0 = refl

handed-0 : handed_of (releases.release true 2 with0) ≡ done (record { kind = received; number = 0; note = 0; size = 1 })
unfolding fresh_view accept keep keep_spares tab xor_at exclusive_or members_of passing usable first_usable mended fill repair_f repair
    messages_of
    messages_in_row held_messages releases.release
handed-0 = refl

octets-0 : octets_handed (releases.release true 2 with0) ≡ done (0x06 ∷ [])
unfolding fresh_view accept keep keep_spares tab xor_at exclusive_or members_of passing usable first_usable mended fill repair_f repair
    messages_of
    messages_in_row held_messages releases.release
octets-0 = refl

pub known-leaves : (s : Session) (one : Returned (Unit {0})) (new : List ℕ) (two : Returned Released) → OfferedThenReleased s one new two
    → KnownLeaves s one new two
unfolding left_by
known-leaves s one new two c =
    let seen = fresh-seen s c.fresh in
    let accepted = call-accepted seen c.first takes-0 in
    let seen_one = then-seen seen c.first (done with0) takes-0 in
    let is = release-is seen_one true 2 in
    let answered : two.answer ≡ Ok (record { kind = Received; number = 0; note = 0; size = 1 }) =
    released-told two.answer (Ok (record { kind = Received; number = 0; note = 0; size = 1 })) (c.second.answer ∙ ap handed_of is ∙ handed-0) in
    let buffer : new ≡ 0x06 ∷ 0xFF ∷ [] =
    c.second.lent ∙ ap (λ (a : Answer (List ℕ)). over a (0xFF ∷ 0xFF ∷ [])) (ap octets_handed is ∙ octets-0) in
    record {
      begins = demand.fresh c.fresh;
      before =
          subst (λ (x : Result (Unit {0}) Refusal). Called s (start then calls.offer datagram0 x) one.session) accepted
          (calls.offered calls.at_start c.first);
      known = rw seen_one.view known-0;
      more =
          subst (λ (x : Result Released Refusal). Called one.session (start then calls.release true (0xFF ∷ 0xFF ∷ []) new x) two.session) answered
          (calls.released calls.at_start c.second);
      left = rw buffer;
      buffer = buffer;
    }
