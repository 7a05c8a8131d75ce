-- Offer and release refuse exactly what their tables say, and a refusal changes nothing. Assumes nothing.
use Prim.Native.Nat.{ℕ, ◌+◌, ◌*◌, ◌≤◌, ◌<◌}
use mathlib.Core.Path.{◌≡◌, refl, sym, ap, ◌∙◌}
use mathlib.Core.Logic.{⊎_elim}
use mathlib.Core.Bool.{Bool, true, false, not, cond, ◌&&◌}
use mathlib.Core.List.{List, [], ◌∷◌}
use mathlib.Core.Option.{some}
use lib.ListN.{length, get_or}
use lib.Dec.{leb, ltb}
use native.Mathlib.Omega.{arith}
use borrow.Author.Tests.{lt-ltb, le-ltb, le-leb, lt-leb, ltb-true, ltb-false}
use Rattle.octets.proofs.Laws.{below_or_not}
use Rattle.length.specs.Refusals.{repeated, too_far, late, base_unknown, no_room}
use Rattle.length.specs.Refusals.{all_passed, outside_ranges}
use Rattle.length.specs.Answers.{Answer, done, refused, refuse}
use Rattle.length.specs.Answers as answers
use Rattle.length.specs.Tables.{when, first, refusal_in}
use Rattle.length.specs.declared.Reason.{Reason}
use Rattle.length.proofs.Laws.{row, row-met, row_step, no_row}
use Rattle.datagram.specs.Carried.{Carried}
use Rattle.datagram.specs.Read.{DatagramParts, read_datagram, carried_by}
use Rattle.datagram.proofs.Laws.{read_done}
use Rattle.session.specs.Cells.{unknown_at, kept_before, kept_ahead}
use Rattle.session.specs.View.{View, sum, distance, session_limit}
use Rattle.session.specs.Offer as offers
use Rattle.session.specs.Offer.{late_from, accepted_at, offered, accept}
use Rattle.session.specs.Release as releases
use Rattle.session.specs.Release.{Release, at_base, view_after_release}
use Rattle.session_held.specs.Table.{view_of}
use Rattle.session_held.specs.Laid.{session_in_ranges}
use Rattle.session_held.specs.declared.Session.{Session}
use Rattle.session_release.specs.Outcome.{handed_of}
use Rattle.session_release.specs.Outcome as outcome
use Rattle.session_offer.specs.Outcome.{accepted_of}
use Rattle.session_calls.specs.Receiver.{After, offer_of, release_of}
use Rattle.demands.specs.Demand1.Refusals.{distance_to, offer_rows, release_rows}
use Rattle.demands.specs.Demand1.Demand1.{Receiving}

-- ---- offer
-- 8 or 9, then 7
three_ways : (b c : Bool) (far later : Bool) (again : Bool) {A : Type 0} (x : A) → (b ≡ true → (far ≡ false) × (later ≡ false))
    → (b ≡ false → (far ≡ c) × (later ≡ not c))
    → refusal_in {A = A} (cond b (cond again (refuse repeated) (done x)) (cond c (refuse too_far) (refuse late)))
    ≡ first (when far too_far ∷ when later late ∷ when again repeated ∷ [])
unfolding first
three_ways true c far later true x near away = rw ((near refl).0, (near refl).1)
three_ways true c far later false x near away = rw ((near refl).0, (near refl).1)
three_ways false true far later again x near away = rw (away refl).0
three_ways false false far later again x near away = rw ((away refl).0, (away refl).1)

far-rows : (d : ℕ) → ltb d kept_ahead ≡ false
    → (leb kept_ahead d && ltb d late_from ≡ ltb d late_from) × (leb late_from d ≡ not (ltb d late_from))
far-rows d e =
    let past : kept_ahead ≤ d = ltb-false d kept_ahead e in (
      rw (le-leb kept_ahead d past),
      ⊎_elim (λ low. rw (lt-ltb d late_from low) (lt-leb late_from d low)) (λ high. rw (le-ltb d late_from high) (le-leb late_from d high))
          (below_or_not d late_from),
    )

near-rows : (d : ℕ) → ltb d kept_ahead ≡ true → (leb kept_ahead d && ltb d late_from ≡ false) × (leb late_from d ≡ false)
near-rows d e =
    let low : d < kept_ahead = ltb-true d kept_ahead e in
    (rw (lt-leb kept_ahead d low), lt-leb late_from d (omega arith))

offered-rows : (datagram : Carried) (view : View) (d : ℕ) → distance view.base datagram.number ≡ d
    → refusal_in (offered datagram view)
    ≡ first (when (leb kept_ahead d && ltb d late_from) too_far ∷ when (leb late_from d) late ∷ when (accepted_at view d) repeated ∷ [])
unfolding offered
offered-rows datagram view d e =
    rw e
    (three_ways (ltb d kept_ahead) (ltb d late_from) (leb kept_ahead d && ltb d late_from) (leb late_from d) (accepted_at view d)
    (accept d datagram view) (near-rows d) (far-rows d))

number_read : (octets : List ℕ) (parts : DatagramParts) → read_datagram octets ≡ done parts
    → (carried_by octets parts).number ≡ get_or octets 0 0 * 256 + get_or octets 1 0
unfolding carried_by
number_read octets parts is = (read_done octets parts is).number

offer-rows : (octets : List ℕ) (s : Session) → refusal_in (offer_of octets s) ≡ first (offer_rows octets s)
unfolding offer_of offer_rows offers.offer
offer-rows octets s =
    row-met (session_in_ranges s) outside_ranges (offers.offer octets (view_of s)) _
    (row_step (read_datagram octets) (λ parts. offered (carried_by octets parts) (view_of s)) _
    (λ parts is. offered-rows (carried_by octets parts) (view_of s) (distance_to octets s)
    (ap (distance (view_of s).base) (number_read octets parts is))))

accepted-refusal : (a : Answer View) → refusal_in (accepted_of a) ≡ refusal_in a
accepted-refusal (done v) = refl
accepted-refusal (refused why) = refl

after-refused : (a : Answer View) (s t : Session) (n : Reason) → refusal_in a ≡ some n → After a s t → t ≡ s
after-refused (done v) s t n e state = let z : ◌≡◌ {A = ℕ} 0 1 = cc in absurd (omega arith)
after-refused (refused why) s t n e state = state

-- ---- release
release-rows : (leave : Bool) (old : List ℕ) (s : Session)
    → refusal_in (release_of leave (length old) s) ≡ first (release_rows leave old s)
unfolding release_of release_rows releases.release
release-rows leave old s =
    row-met (session_in_ranges s) outside_ranges (releases.release leave (length old) (view_of s)) _
    (row (leb session_limit (sum (view_of s).counts)) all_passed _ _
    (row (unknown_at (view_of s).cells kept_before && not leave) base_unknown _ _
    (row (ltb (length old) (length (at_base (view_of s)).octets)) no_room _ _ no_row)))

handed-refusal : (a : Answer Release) → refusal_in (handed_of a) ≡ refusal_in a
handed-refusal (done v) = refl
handed-refusal (refused why) = refl

release-refused : (a : Answer Release) (s t : Session) (old : List ℕ) (n : Reason) → refusal_in a ≡ some n
    → After (view_after_release a) s t
    → (t ≡ s) × (answers.over (outcome.octets_handed a) old ≡ old)
release-refused (done v) s t old n e state = let z : ◌≡◌ {A = ℕ} 0 1 = cc in absurd (omega arith)
release-refused (refused why) s t old n e state = (state, refl)

pub receiving : Receiving
receiving =
    record {
      offer = λ {s} {octets} p. ap refusal_in p.answer ∙ accepted-refusal (offer_of octets s) ∙ offer-rows octets s;
      offer_unchanged = λ {s} {octets} {r} {n} p e.
          after-refused (offer_of octets s) s r.session n (sym (ap refusal_in p.answer ∙ accepted-refusal (offer_of octets s)) ∙ e)
          p.state;
      release = λ {s} {leave} {old} p.
          ap refusal_in p.answer ∙ handed-refusal (release_of leave (length old) s) ∙ release-rows leave old s;
      release_unchanged = λ {s} {leave} {old} {new} {r} {n} p e.
          let stays =
          release-refused (release_of leave (length old) s) s r.session old n
          (sym (ap refusal_in p.answer ∙ handed-refusal (release_of leave (length old) s)) ∙ e) p.state in
          (stays.0, p.lent ∙ stays.1);
    }
