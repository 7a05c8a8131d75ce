-- Demand 3, of views. Known after the first list lies within known after the second: that set holds what was known, what each
-- datagram of the first list brings, and is closed under its messages, since the second list holds them all. Assumes nothing.
use Prim.Native.Nat.{ℕ, ◌+◌, ◌<◌}
use mathlib.Core.Path.{◌≡◌, refl, sym, ap, subst, ◌∙◌}
use mathlib.Core.Logic.{⊎_elim}
use mathlib.Core.Bool.{true}
use mathlib.Core.List.Memᴰ
use mathlib.Core.List.Memᴰ.{head as here}
use mathlib.Core.List.Memᴰ.{tail as further}
use mathlib.Core.List.{List, Memᴰ as Among}
use mathlib.Core.Option.{none}
use lib.ListN.{length}
use native.Mathlib.Omega.{arith}
use Rattle.octets.proofs.Laws.{tab-among, true-or-false, same_or_not}
use Rattle.datagram.specs.Carried.{Carried}
use Rattle.session.specs.Cells.{repaired, filled_cell, kept_before, kept_ahead}
use Rattle.session.specs.Repair.{Message}
use Rattle.session.specs.Held.{Held, nothing_held, held_at, message_at, messages_of, held_messages}
use Rattle.session.specs.Reached.{Known}
use Rattle.session.proofs.Laws.{known-within, held-at, messages_of-among}
use Rattle.session.specs.View.{View, Counts, sum}
use Rattle.session.specs.Offer as offers
use Rattle.session.specs.Offer.{accept}
use Rattle.sender.specs.Honest.{HonestSender}
use Rattle.demands.specs.Demand3.Feeding.{place_of}
use Rattle.demands.specs.Demand3.Demand3.{TwoLists}
use Rattle.demands.proofs.Growing.{known_grown}
use Rattle.demands.proofs.InRanges.{filled, grown-accept, held-beside}
use Rattle.demands.proofs.Steps.{accept-base, accept-counts}
use Rattle.demands.proofs.Knowing.{Brings, brought, accept-cells}
use Rattle.demands.proofs.Sent.{Follows, follows_same}
use Rattle.demands.proofs.Sound.{Marked, Sound, accept-sound, new-mark}
use Rattle.demands.proofs.FedViews.{FedView, TakesViews, none, accepted, repeated}
use Rattle.demands.proofs.Fed.{Took, took, Again, again, took-sound, fed-sound}

-- ---- less known, less held, at the same base
pub record Less (view two : View) : Type 0 where
  pub base : view.base ≡ two.base
  pub counts : view.counts ≡ two.counts
  pub known : (p : ℕ) → Known view.cells p → Known two.cells p
  pub marks : (d : ℕ) → d < kept_ahead → (held_at view.held d).accepted ≡ true → (held_at two.held d).accepted ≡ true

less-same : (view : View) → Less view view
less-same view = record { base = refl; counts = refl; known = λ p k. k; marks = λ d low m. m }

less-twice : {view mid two : View} → Less view mid → Less mid two → Less view two
less-twice a b =
    record {
      base = a.base ∙ b.base;
      counts = a.counts ∙ b.counts;
      known = λ p k. b.known p (a.known p k);
      marks = λ d low m. b.marks d low (a.marks d low m);
    }

-- ---- the messages of the one are among those of the other: one datagram for each place
module _ {row datagrams : List (List ℕ)} {view two : View} (s : Sound row datagrams view) (t : Sound row datagrams two)
    (same_place : place_of view ≡ place_of two)
    (marks : (d : ℕ) → d < kept_ahead → (held_at view.held d).accepted ≡ true → (held_at two.held d).accepted ≡ true) where
  same-carried : (d : ℕ) (a : Marked row datagrams view d) (b : Marked row datagrams two d) → a.carried ≡ b.carried
  same-carried d a b =
      follows_same a.follows
      (subst (λ (x : ℕ). Follows row datagrams (x + d) b.carried) (sym same_place) b.follows)

  same-held : (d : ℕ) → d < kept_ahead → (held_at view.held d).accepted ≡ true → held_at view.held d ≡ held_at two.held d
  same-held d low m =
      let a = s.marked d low m in
      let b = t.marked d low (marks d low m) in
      a.held ∙ ap (λ (c : Carried). offers.held_by c.extra) (same-carried d a b) ∙ sym b.held

  pub messages-among : (message : Message) → Among message (held_messages view.held) → Among message (held_messages two.held)
  unfolding held_messages messages_of
  messages-among message among =
      let at = held-at kept_before view.held message among in
      let small : at.j < kept_ahead = rw s.ranges.heard at at.inside in
      ⊎_elim
      (λ m.
      let same = same-held at.j small m in
      messages_of-among kept_before two.held at.j message (rw t.ranges.heard small)
      (subst (λ (h : Held). Among message (messages_of (kept_before + at.j) h)) same
      (subst (λ (x : Message). Among x (messages_of (kept_before + at.j) (held_at view.held at.j))) (sym at.same)
      (tab-among _ (message_at (kept_before + at.j) (held_at view.held at.j)) at.i at.low))))
      (λ no-mark.
      let low : at.i < length nothing_held.messages =
      subst (λ (h : Held). at.i < length h.messages) (s.unmarked at.j small no-mark) at.low in
      absurd (omega arith))
      (true-or-false (held_at view.held at.j).accepted)

-- ---- one datagram more
module _ {row datagrams : List (List ℕ)} {view : View} (s : Sound row datagrams view) (d : ℕ) (low : d < kept_ahead) (c : Carried)
    (sent : place_of view + d < length row) (f : Follows row datagrams (place_of view + d) c) where
  abbrev mid : View
  mid = accept d c view

  mid-sound : Sound row datagrams mid
  mid-sound = accept-sound s d low c sent f

  -- it takes nothing away
  mark-stays : (e : ℕ) → (held_at view.held e).accepted ≡ true → (held_at mid.held e).accepted ≡ true
  mark-stays e m =
      ⊎_elim (λ same. ap (λ (k : ℕ). (held_at mid.held k).accepted) same ∙ new-mark s d low c sent f)
      (λ other. ap (λ (h : Held). h.accepted) (held-beside d c view e other) ∙ m)
      (same_or_not e d)

  more-known : Less view mid
  more-known =
      record {
        base = sym (accept-base d c view);
        counts = sym (accept-counts d c view);
        known = known_grown (grown-accept d c view);
        marks = λ e small m. mark-stays e m;
      }

  -- it adds nothing that another session lacks, which has accepted it too
  module _ {two : View} (t : Sound row datagrams two) (less : Less view two) (both : (held_at two.held d).accepted ≡ true) where
    same_place : place_of view ≡ place_of two
    same_place = ap sum less.counts

    mark-both : (e : ℕ) → e < kept_ahead → (held_at mid.held e).accepted ≡ true → (held_at two.held e).accepted ≡ true
    mark-both e small m =
        ⊎_elim (λ same. ap (λ (k : ℕ). (held_at two.held k).accepted) same ∙ both)
        (λ other. less.marks e small (sym (ap (λ (h : Held). h.accepted) (held-beside d c view e other)) ∙ m))
        (same_or_not e d)

    two-marked : Marked row datagrams two d
    two-marked = t.marked d low both

    two-carries : c ≡ two-marked.carried
    two-carries =
        follows_same f (subst (λ (x : ℕ). Follows row datagrams (x + d) two-marked.carried) (sym same_place) two-marked.follows)

    start : (p : ℕ) → Known (filled d c view) p → Known two.cells p
    start p k =
        ⊎_elim (less.known p) (λ b. two-marked.brings p (subst (λ (x : Carried). Brings x d p) two-carries b))
        ((brought c d view s.ranges.kept low p).0 k)

    mid-place : place_of mid ≡ place_of two
    mid-place = ap sum (accept-counts d c view) ∙ same_place

    within-two : (p : ℕ) → Known mid.cells p → Known two.cells p
    within-two p k =
        known-within (filled_cell c.number repaired) (Known two.cells) (filled d c view) (held_messages mid.held) start
        (λ message q among. t.closed message q (messages-among mid-sound t mid-place mark-both message among))
        p
        (rw (accept-cells d c view) at k)

    still-less : Less mid two
    still-less =
        record {
          base = accept-base d c view ∙ less.base;
          counts = accept-counts d c view ∙ less.counts;
          known = within-two;
          marks = mark-both;
        }

-- ---- a list
module _ {row datagrams : List (List ℕ)} (honest : HonestSender row datagrams) where
  -- the datagram of place S, taken
  sent-here : {view last : View} {S : ℕ} (low : S < length row) (t : Took row datagrams view S last) → place_of view + t.d < length row
  sent-here low t = subst (λ (x : ℕ). x < length row) t.place low

  takes-sound : {places : List ℕ} {view last : View} → TakesViews row datagrams places view last → Sound row datagrams view
      → Sound row datagrams last
  takes-sound none s = s
  takes-sound (accepted {S = S} {mid = mid} low near e rest) s =
      takes-sound rest (took-sound low s (took honest s.ranges S low near mid e))
  takes-sound (repeated low near e rest) s = takes-sound rest s

  took-less : {view last : View} {S : ℕ} → S < length row → Sound row datagrams view → Took row datagrams view S last → Less view last
  took-less {view} low s t = subst (Less view) t.is (more-known s t.d t.low t.carried (sent-here low t) t.follows)

  takes-less : {places : List ℕ} {view last : View} → TakesViews row datagrams places view last → Sound row datagrams view → Less view last
  takes-less {view = view} none s = less-same view
  takes-less (accepted {S = S} {mid = mid} low near e rest) s =
      let t = took honest s.ranges S low near mid e in
      less-twice (took-less low s t) (takes-less rest (took-sound low s t))
  takes-less (repeated low near e rest) s = takes-less rest s

  -- every datagram of the list is accepted in the end
  again-more : {view two : View} {S : ℕ} → Less view two → Again view S → Again two S
  again-more {view} {two} {S} less a =
      record {
        d = a.d;
        low = a.low;
        place = a.place ∙ ap (λ (x : Counts). sum x + a.d) less.counts;
        marked = less.marks a.d a.low a.marked;
      }

  took-again : {view last : View} {S : ℕ} → S < length row → Sound row datagrams view → Took row datagrams view S last → Again last S
  took-again {view} {last} {S} low s t =
      subst (λ (x : View). Again x S) t.is
      (record {
        d = t.d;
        low = t.low;
        place = t.place ∙ ap (λ (x : Counts). sum x + t.d) (sym (accept-counts t.d t.carried view));
        marked = new-mark s t.d t.low t.carried (sent-here low t) t.follows;
      })

  takes-again : {places : List ℕ} {view last : View} → TakesViews row datagrams places view last → Sound row datagrams view
      → (S : ℕ) → Among S places → Again last S
  takes-again none s S among = absurd (Memᴰ.not-nil among)
  takes-again (accepted {S = R} {mid = mid} low near e rest) s S among =
      let t = took honest s.ranges R low near mid e in
      let next = took-sound low s t in
      ⊎_elim (λ same. again-more (takes-less rest next) (subst (Again mid) (sym same) (took-again low s t)))
      (λ later. takes-again rest next S later)
      (Memᴰ.cases_cons among)
  takes-again (repeated {S = R} {view = view} low near e rest) s S among =
      ⊎_elim (λ same. again-more (takes-less rest s) (subst (Again view) (sym same) (again honest s.ranges R low near e)))
      (λ later. takes-again rest s S later)
      (Memᴰ.cases_cons among)

  took-within : {view mid two : View} {S : ℕ} → S < length row → Sound row datagrams view → Sound row datagrams two → Less view two
      → Took row datagrams view S mid → Again two S → Less mid two
  took-within {view} {mid} {two} {S} low s t less k a =
      let place : place_of view ≡ place_of two = ap sum less.counts in
      let same : a.d ≡ k.d = omega (arith, k.place, a.place) in
      subst (λ (x : View). Less x two) k.is
      (still-less s k.d k.low k.carried (sent-here low k) k.follows t less
      (sym (ap (λ (d : ℕ). (held_at two.held d).accepted) same) ∙ a.marked))

  -- a list whose datagrams another session has all accepted adds nothing that it lacks
  takes-within : {places : List ℕ} {view last two : View} → TakesViews row datagrams places view last → Sound row datagrams view
      → Sound row datagrams two → Less view two → ((S : ℕ) → Among S places → Again two S) → Less last two
  takes-within none s t less all = less
  takes-within (accepted {S = S} {view = view} {mid = mid} low near e rest) s t less all =
      let k = took honest s.ranges S low near mid e in
      takes-within rest (took-sound low s k) t (took-within low s t less k (all S (here refl))) (λ R among. all R (further among))
  takes-within (repeated low near e rest) s t less all =
      takes-within rest s t less (λ S among. all S (further among))

-- ---- two lists from one view
pub views-less : {row datagrams : List (List ℕ)} → HonestSender row datagrams → {view : View} → FedView row datagrams view
    → {first second : List ℕ} {one two : View} → TakesViews row datagrams first view one → TakesViews row datagrams second view two
    → ((S : ℕ) → Among S first → Among S second) → Less one two
views-less honest f takes_one takes_two all =
    let s = fed-sound honest f in
    let s-two = takes-sound honest takes_two s in
    takes-within honest takes_one s s-two (takes-less honest takes_two s) (λ S among. takes-again honest takes_two s S (all S among))

pub views-no-less : {row datagrams : List (List ℕ)} → HonestSender row datagrams → {view : View} → FedView row datagrams view
    → {first second : List ℕ} {one two : View} → TakesViews row datagrams first view one → TakesViews row datagrams second view two
    → ((S : ℕ) → Among S first → Among S second) → TwoLists row one two
views-no-less honest f takes_one takes_two all =
    let s = fed-sound honest f in
    let less = views-less honest f takes_one takes_two all in
    record {
      known = λ p small. less.known p;
      first_right = (takes-sound honest takes_one s).right;
      second_right = (takes-sound honest takes_two s).right;
      same_base = less.base;
      same_counts = less.counts;
    }
