-- The claims of the receiving session. Assumes nothing.
use Prim.Native.Nat.{ℕ, ◌+◌, ◌-◌, ◌<◌}
use mathlib.Core.Path.{◌≡◌, refl, sym, ap, ap₂, ◌∙◌}
use mathlib.Core.Bool.{Bool, true, false, cond, true≢false}
use mathlib.Core.List.{List, [], ◌∷◌}
use mathlib.Core.Logic.{⊎_elim}
use lib.ListN.{length, get_or, set}
use lib.Seq.{get_or-set_same, get_or-set_other}
use lib.Dec.{ltb}
use native.Mathlib.Omega.{arith}
use borrow.Author.Tests.{ltb-true}
use Rattle.octets.proofs.Laws.{true-or-false}
use Rattle.length.specs.Refusals.{repeated, too_far, late, outside_ranges}
use Rattle.length.specs.Answers.{Answer, done, refused, refuse, ◌>>=◌, over}
use Rattle.length.proofs.Laws.{not_done, done-same}
use Rattle.datagram.specs.Carried.{Carried, Extra, spares, parity}
use Rattle.datagram.specs.Read.{DatagramParts, read_datagram, carried_by}
use Rattle.session.specs.Cells.{State, received, spare, Cell, is_unknown, cell_at, unknown_at, kept_before, kept_ahead}
use Rattle.session.specs.Held.{Held, nothing_held}
use Rattle.session.specs.Reached.{Known}
use Rattle.session.proofs.Laws.{repair-known, release-leaves}
use Rattle.session.specs.View.{View, distance}
use Rattle.session.specs.Offer as offers
use Rattle.session.specs.Release.{Release, at_base, release, view_after_release}
use Rattle.session_held.specs.Table.{view_of}
use Rattle.session_held.specs.Laid.{session_in_ranges}
use Rattle.session_held.specs.declared.Session.{Session}
use Rattle.session_held.proofs.Laws.{in-ranges-true, fresh-same}
use Rattle.session_release.specs.Outcome.{Handed, released_outcome, handed_of, octets_handed}
use Rattle.session_release.proofs.Laws.{released-told}
use Rattle.session_offer.proofs.Laws.{offered-told}
use Rattle.session_calls.specs.Receiver.{After, offer_of, release_of}
use Rattle.session_calls.specs.Claims.{RefusedStays, OneOutcome, AcceptedOffer, KnownNeverLost, Claims}
use Rattle.session_calls.proofs.Outcomes.{after_same, after-refused}

refused-stays : RefusedStays
refused-stays =
    record {
      offer = λ {s} {octets} {r} x o is. after-refused (offer_of octets s) x o.state is;
      release =
          λ {s} {leave} {old} {new} {r} x o is. (
            after-refused (view_after_release (release_of leave (length old) s)) x o.state (ap view_after_release is),
            o.lent ∙ ap (λ (a : Answer (List ℕ)). over a old) (ap octets_handed is),
          );
    }

one-outcome : OneOutcome
one-outcome =
    record {
      offer =
          λ {s} {octets} {r} {q} a b.
          ap₂ (λ x y. record { session = x; answer = y }) (after_same (offer_of octets s) s a.state b.state)
          (offered-told r.answer q.answer (a.answer ∙ sym b.answer));
      release =
          λ {s} {leave} {old} {new} {other} {r} {q} a b. (
            ap₂ (λ x y. record { session = x; answer = y })
                (after_same (view_after_release (release_of leave (length old) s)) s a.state b.state)
                (released-told r.answer q.answer (a.answer ∙ sym b.answer)),
            a.lent ∙ sym b.lent,
          );
      fresh = λ {r} {q} a b. fresh-same r q a b;
    }

-- ---- an accepted offer
-- what the tests say of an offer that is not refused
both-tests : (b c d : Bool) (after v : View)
    → cond b (cond c (refuse repeated) (done v)) (cond d (refuse too_far) (refuse late)) ≡ done after
    → (b ≡ true) × (after ≡ v)
both-tests true true d after v e = let z : ◌≡◌ {A = ℕ} 0 1 = cc in absurd (omega arith)
both-tests true false d after v e = (refl, cc)
both-tests false c true after v e = let z : ◌≡◌ {A = ℕ} 0 1 = cc in absurd (omega arith)
both-tests false c false after v e = let z : ◌≡◌ {A = ℕ} 0 1 = cc in absurd (omega arith)

offered-done : (c : Carried) (view after : View) → offers.offered c view ≡ done after
    → (distance view.base c.number < kept_ahead) × (after ≡ offers.accept (distance view.base c.number) c view)
unfolding offers.offered
offered-done c view after e =
    let t =
    both-tests (ltb (distance view.base c.number) kept_ahead) (offers.accepted_at view (distance view.base c.number))
    (ltb (distance view.base c.number) offers.late_from) after (offers.accept (distance view.base c.number) c view) e in
    (ltb-true (distance view.base c.number) kept_ahead t.0, t.1)

offer-done : (a : Answer DatagramParts) (octets : List ℕ) (view after : View)
    → ◌>>=◌ a (λ parts. offers.offered (carried_by octets parts) view) ≡ done after
    → (parts : DatagramParts) × (a ≡ done parts) × (offers.offered (carried_by octets parts) view ≡ done after)
offer-done (done parts) octets view after e = (parts, refl, e)
offer-done (refused x) octets view after e = let z : ◌≡◌ {A = ℕ} 0 1 = cc in absurd (omega arith)

-- what is known is never written over
keep_known : (S : ℕ) (state : State) (q : ℕ) (b : List ℕ) (cells : List Cell) (p : ℕ) → Known cells p
    → cell_at (offers.keep S state q b cells) p ≡ cell_at cells p
unfolding offers.keep
keep_known S state q b cells p known =
    ⊎_elim
    (λ t. rw t (get_or-set_other cells q p _ _ (λ same. true≢false (sym t ∙ ap (unknown_at cells) (sym same) ∙ known))))
    (λ f. rw f)
    (true-or-false (unknown_at cells q))

still-known : (cells after : List Cell) (p : ℕ) → cell_at after p ≡ cell_at cells p → Known cells p → Known after p
still-known cells after p same known = ap (λ (c : Cell). is_unknown c.state) same ∙ known

spares-known : (S q : ℕ) (copies : List (List ℕ)) (cells : List Cell) (p : ℕ) → Known cells p
    → cell_at (offers.keep_spares S q copies cells) p ≡ cell_at cells p
unfolding offers.keep_spares
spares-known S q [] cells p known = refl
spares-known S q (b ∷ more) cells p known =
    let one = keep_known S spare (q - 1) b cells p known in
    spares-known S (q - 1) more (offers.keep S spare (q - 1) b cells) p
    (still-known cells (offers.keep S spare (q - 1) b cells) p one known)
    ∙ one

extra-known : (S q : ℕ) (x : Extra) (cells : List Cell) (p : ℕ) → Known cells p → cell_at (offers.keep_extra S q x cells) p ≡ cell_at cells p
extra-known S q (spares copies) cells p known = spares-known S q copies cells p known
extra-known S q (parity n messages) cells p known = refl

accept-known : (d : ℕ) (c : Carried) (view : View) (p : ℕ) → Known view.cells p
    → cell_at (offers.accept d c view).cells p ≡ cell_at view.cells p
unfolding offers.accept
accept-known d c view p known =
    let one = keep_known c.number received (kept_before + d) c.packet view.cells p known in
    let first = offers.keep c.number received (kept_before + d) c.packet view.cells in
    let kept = still-known view.cells first p one known in
    let two = extra-known c.number (kept_before + d) c.extra first p kept in
    repair-known _ _ _ p (still-known first (offers.keep_extra c.number (kept_before + d) c.extra first) p two kept) ∙ two ∙ one

held-accepted : (x : Extra) → (offers.held_by x).accepted ≡ true
held-accepted (spares copies) = refl
held-accepted (parity n messages) = refl

accept-marked : (d : ℕ) (c : Carried) (view : View) → d < length view.held → offers.accepted_at (offers.accept d c view) d ≡ true
unfolding offers.accept
accept-marked d c view inside =
    ap (λ (x : Held). x.accepted) (get_or-set_same view.held d (offers.held_by c.extra) nothing_held inside) ∙ held-accepted c.extra

number-carried : (octets : List ℕ) (parts : DatagramParts) → (carried_by octets parts).number ≡ parts.number
unfolding carried_by
number-carried octets parts = refl

accept-counts : (d : ℕ) (c : Carried) (view : View) → (offers.accept d c view).counts ≡ view.counts
unfolding offers.accept
accept-counts d c view = refl

accept-base : (d : ℕ) (c : Carried) (view : View) → (offers.accept d c view).base ≡ view.base
unfolding offers.accept
accept-base d c view = refl

accepted-offer : (octets : List ℕ) (view after : View) → offers.offer octets view ≡ done after → AcceptedOffer octets view after
unfolding offers.offer
accepted-offer octets view after e =
    let r = offer-done (read_datagram octets) octets view after e in
    let c = carried_by octets r.0 in
    let t = offered-done c view after r.2 in
    let n = number-carried octets r.0 in
    let d-is = ap (distance view.base) n in
    record {
      parts = r.0;
      read = r.1;
      near = rw d-is at t.0;
      marked =
          λ long.
          rw (← d-is)
          (ap (λ (v : View). offers.accepted_at v (distance view.base c.number)) t.1
          ∙ accept-marked (distance view.base c.number) c view (rw long t.0));
      known =
          λ p known. ap (λ (v : View). cell_at v.cells p) t.1 ∙ accept-known (distance view.base c.number) c view p known;
      counts = ap (λ (v : View). v.counts) t.1 ∙ accept-counts (distance view.base c.number) c view;
      base = ap (λ (v : View). v.base) t.1 ∙ accept-base (distance view.base c.number) c view;
    }

-- ---- within the ranges
pub after-ranges : (a : Answer View) (s r : Session) → After a s r → session_in_ranges s ≡ true → session_in_ranges r ≡ true
after-ranges (done v) s r x inside = in-ranges-true x.within
after-ranges (refused why) s r x inside = ap (λ (q : Session). session_in_ranges q) x ∙ inside

-- ---- a known base
-- within the ranges, whatever leaves has the kind of the base
handed-kind : (inside : Bool) (leave : Bool) (room : ℕ) (view : View) (h : Handed)
    → done h ≡ handed_of (cond inside (release leave room view) (refuse outside_ranges)) → h.kind ≡ (at_base view).state
handed-kind false leave room view h e = absurd (not_done (sym e))
handed-kind true leave room view h e = pick (release leave room view) refl e where
  pick : (a : Answer Release) → release leave room view ≡ a → done h ≡ handed_of a → h.kind ≡ (at_base view).state
  pick (done r) is told = ap (λ (x : Handed). x.kind) (done-same told) ∙ (release-leaves leave room view r is).kind
  pick (refused why) is told = let z : ◌≡◌ {A = ℕ} 0 1 = cc in absurd (omega arith)

known-never-lost : KnownNeverLost
unfolding release_of
known-never-lost s leave old new r number note size o known is =
    let kind = handed-kind (session_in_ranges s) leave (length old) (view_of s) _ (sym (ap released_outcome is) ∙ o.answer) in
    true≢false (ap is_unknown kind ∙ known)

pub claims : Claims
claims =
    record {
      refused_stays = refused-stays;
      one_outcome = one-outcome;
      accepted = accepted-offer;
      after_offer = λ {s} {octets} {r} o inside. after-ranges (offer_of octets s) s r.session o.state inside;
      after_release =
          λ {s} {leave} {old} {new} {r} o inside.
          after-ranges (view_after_release (release_of leave (length old) s)) s r.session o.state inside;
      known_never_lost = known-never-lost;
    }
