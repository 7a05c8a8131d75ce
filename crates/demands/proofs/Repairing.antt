-- What an accepted offer makes known is what it makes reached: its packet, its spares, and what the messages then held mend.
-- The held messages of the view are those of the calls, at places g further on; so the known numbers, the least that hold what
-- was known and brought and are closed under the messages, are the reached ones. Assumes nothing.
use Prim.Native.Nat.{ℕ, zero, suc, ◌+◌, ◌-◌, ◌*◌, ◌≤◌, ◌<◌}
use mathlib.Core.Path.{◌≡◌, refl, sym, ap, subst, ◌∙◌}
use mathlib.Core.Logic.{inr, ⊎_elim}
use mathlib.Core.List.{List, Memᴰ as Among}
use lib.ListN.{length}
use native.Mathlib.Omega.{arith}
use Rattle.octets.proofs.Laws.{tab-among}
use Rattle.datagram.specs.Sizes.{covered_limit, messages_limit}
use Rattle.datagram.specs.Carried.{Carried}
use Rattle.session.specs.Cells.{Cell, kept_before, kept_ahead, kept_numbers}
use Rattle.session.specs.Members.{members_of}
use Rattle.session.specs.Held.{Held, held_at, message_at, messages_of, held_messages}
use Rattle.session.specs.Repair.{Message}
use Rattle.session.specs.Reached.{Known, Closed, known, DistinctMembers}
use Rattle.session.proofs.Laws.{member-in-reach, held-at, messages_of-among, reached-within, makes-repaired, known-closed, reach-kept}
use Rattle.session.specs.View.{View, sum}
use Rattle.session.specs.Offer.{held_by, accept}
use Rattle.demands.specs.Common.Calls.{Call, Calls, ◌then◌}
use Rattle.demands.specs.Demand2.ReachedBy.{spare_at, spares_in, HasSpare, Accepts, now, HeldBy, ReachedBy, packet, spare, repaired}
use Rattle.demands.specs.Demand2.ReachedBy.{earlier}
use Rattle.demands.proofs.Growing.{known_grown}
use Rattle.demands.proofs.InRanges.{filled, grown-accept, distinct-held}
use Rattle.demands.proofs.Steps.{accept-counts}
use Rattle.demands.proofs.Knowing.{Brings, packet as own, copy, brought, accept-cells, accept-known}
use Rattle.demands.proofs.Places.{members-up, members-down}
use Rattle.demands.proofs.Reaching.{reached_then, Seen, Knows}
use Rattle.demands.proofs.Arriving.{Took}

module _ {calls : Calls} {call : Call} {g d : ℕ} {c : Carried} {view : View} (t : Took calls call g d c view) where
  abbrev mid : View
  mid = accept d c view

  distinct : DistinctMembers (held_messages mid.held)
  distinct = distinct-held mid t.ranges

  mid-closed : Closed (held_messages mid.held) (Known mid.cells)
  mid-closed =
      subst (λ (cells : List Cell). Closed (held_messages mid.held) (Known cells)) (sym (accept-cells d c view))
      (known-closed (makes-repaired c.number) (filled d c view) (held_messages mid.held) distinct)

  -- ---- what is known is reached
  brings-reached : (p : ℕ) → Brings c d p → ReachedBy (calls then call) (g + p)
  brings-reached p own = packet (now t.here)
  brings-reached p (copy j less) =
      let few = t.few in
      let place : spare_at (g + (kept_before + d)) (suc j) ≡ g + (kept_before + d - suc j) = omega arith in
      subst (ReachedBy (calls then call)) place (spare (now t.here) (suc j) (omega arith, less))

  -- the messages of the view are those of the calls
  module _ (e i : ℕ) (h : Held) (low : e < kept_ahead) (is : held_at mid.held e ≡ h) (few : i < length h.messages) where
    reach : h.n * length h.messages ≤ kept_before + e
    reach =
        let covered : h.n ≤ covered_limit = subst (λ (x : Held). x.n ≤ covered_limit) is (t.ranges.covered e low) in
        let less : length h.messages ≤ messages_limit =
        subst (λ (x : Held). length x.messages ≤ messages_limit) is (t.ranges.messages e low) in
        let within = reach-kept covered less in
        omega arith

    abbrev Inside : ℕ → Type 0
    Inside q = Among q (members_of (kept_before + e) h.n (length h.messages) i)

    inside-low : (q : ℕ) → Inside q → q < kept_numbers
    inside-low q at =
        let before-it = (member-in-reach (kept_before + e) h.n (length h.messages) i reach few at).before in
        omega arith

    mend-reached : 1 ≤ length (message_at (kept_before + e) h i).octets → (q : ℕ) → Inside q
        → ((r : ℕ) → Inside r → (r ≡ q → ⊥) → r < kept_numbers → ReachedBy (calls then call) (g + r))
        → ReachedBy (calls then call) (g + q)
    mend-reached long q at others =
        let b = t.marked e low i (subst (λ (x : Held). i < length x.messages) (sym is) few) in
        let same : held_by b.datagram.extra ≡ h = sym b.is ∙ is in
        repaired t.here (message_at (g + (kept_before + e)) h i)
        (record {
          S = g + (kept_before + e);
          datagram = b.datagram;
          arrived = b.arrived;
          stays = let so_far = t.left in omega arith;
          i = i;
          low = rw same few;
          is = ap (λ (x : Held). message_at (g + (kept_before + e)) x i) (sym same);
        })
        long
        (members-up g (kept_before + e) h.n (length h.messages) i q reach few at)
        (λ P member other.
        let r = members-down g (kept_before + e) h.n (length h.messages) i P reach few member in
        subst (ReachedBy (calls then call)) (sym r.1)
        (others r.0 r.2 (λ same_place. other (r.1 ∙ ap (λ (n : ℕ). g + n) same_place)) (inside-low r.0 r.2)))

    -- and the other way round
    mend-known : 1 ≤ length (message_at (kept_before + e) h i).octets → (q : ℕ) → Inside q
        → ((r : ℕ) → Inside r → (r ≡ q → ⊥) → Known mid.cells r)
        → Known mid.cells q
    unfolding held_messages messages_of
    mend-known long q at others =
        mid-closed (message_at (kept_before + e) h i) q
        (messages_of-among kept_before mid.held e _ (rw t.ranges.heard low)
        (subst (λ (x : Held). Among (message_at (kept_before + e) h i) (messages_of (kept_before + e) x)) (sym is)
        (tab-among (length h.messages) (message_at (kept_before + e) h) i few)))
        long
        at
        others

    message-seen : 1 ≤ length (message_at (kept_before + e) h i).octets → (P : ℕ)
        → Among P (members_of (g + (kept_before + e)) h.n (length h.messages) i)
        → ((q : ℕ) → Among q (members_of (g + (kept_before + e)) h.n (length h.messages) i) → (q ≡ P → ⊥) → Seen mid g q)
        → Seen mid g P
    message-seen long P at others = seen (members-down g (kept_before + e) h.n (length h.messages) i P reach few at)
      where
        seen : (q : ℕ) × (P ≡ g + q) × Inside q → Seen mid g P
        seen down =
            let is_at = down.1 in
            let below = inside-low down.0 down.2 in
            let now-known = mend-known long down.0 down.2
            (λ r member other.
            (others (g + r) (members-up g (kept_before + e) h.n (length h.messages) i r reach few member)
            (λ same_place. other (omega arith))
            ).1
            r
            refl) in
            (omega arith, λ p same. let at_p : down.0 ≡ p = omega arith in subst (Known mid.cells) at_p now-known)

  mid-reached : (p : ℕ) → p < kept_numbers → Known mid.cells p → ReachedBy (calls then call) (g + p)
  unfolding held_messages
  mid-reached p small k-now =
      reached-within (λ q. q < kept_numbers → ReachedBy (calls then call) (g + q)) (filled d c view) (held_messages mid.held)
      (λ q k-then less.
      ⊎_elim (λ was. earlier (t.so_far.reached q less was)) (brings-reached q)
      ((brought c d view t.so_far.ranges.kept t.near q).0 k-then))
      (λ message q among long at others less.
      let place = held-at kept_before mid.held message among in
      let same = place.same in
      mend-reached place.j place.i (held_at mid.held place.j) (rw t.ranges.heard at place.inside) refl place.low
      (subst (λ (x : Message). 1 ≤ length x.octets) same long)
      q
      (subst (λ (x : Message). Among q x.members) same at)
      (λ r member. others r (subst (λ (x : Message). Among r x.members) (sym same) member)))
      ((accept-known d c view distinct p).0 k-now)
      small

  -- ---- what is reached is known
  brings-known : (p : ℕ) → Brings c d p → Known mid.cells p
  brings-known p b = (accept-known d c view distinct p).1 (known ((brought c d view t.so_far.ranges.kept t.near p).1 (inr b)))

  first-seen : (S : ℕ) (x : Carried) → Accepts calls call S x → Seen mid g S
  first-seen S x a =
      let at = (t.one a).0 in
      let low = t.near in (
        omega arith,
        λ p same. let place : kept_before + d ≡ p = omega arith in subst (Known mid.cells) place (brings-known (kept_before + d) own),
      )

  spare-seen : (S : ℕ) (x : Carried) → Accepts calls call S x → (j : ℕ) → HasSpare x j → Seen mid g (spare_at S j)
  spare-seen S x a zero has = absurd (let least = has.0 in omega arith)
  spare-seen S x a (suc j) has =
      let at = (t.one a).0 in
      let low = t.near in
      let less : suc j ≤ spares_in c.extra = subst (λ (y : Carried). suc j ≤ spares_in y.extra) (t.one a).1 has.1 in (
        omega arith,
        λ p same.
            let place : kept_before + d - suc j ≡ p = omega arith in
            subst (Known mid.cells) place (brings-known (kept_before + d - suc j) (copy j less)),
      )

  mend-seen : (message : Message) → HeldBy (calls then call) message → 1 ≤ length message.octets → (P : ℕ) → Among P message.members
      → ((q : ℕ) → Among q message.members → (q ≡ P → ⊥) → Seen mid g q)
      → Seen mid g P
  mend-seen message m = held-seen (m.S - (g + kept_before)) (let so_far = t.left in let there = m.stays in omega arith)
    where
      held-seen : (e : ℕ) → m.S ≡ g + (kept_before + e) → 1 ≤ length message.octets → (P : ℕ) → Among P message.members
          → ((q : ℕ) → Among q message.members → (q ≡ P → ⊥) → Seen mid g q)
          → Seen mid g P
      held-seen e place long P at others =
          let holds = t.holds m.S m.datagram m.arrived e place in
          let same = m.is ∙ ap (λ (S : ℕ). message_at S (held_by m.datagram.extra) m.i) place in
          message-seen e m.i (held_by m.datagram.extra) holds.0 holds.1 m.low
          (subst (λ (x : Message). 1 ≤ length x.octets) same long)
          P
          (subst (λ (x : Message). Among P x.members) same at)
          (λ q member. others q (subst (λ (x : Message). Among q x.members) (sym same) member))

  pub knows-mid : Knows (calls then call) g mid
  knows-mid =
      record {
        ranges = t.ranges;
        counted = ap sum (accept-counts d c view) ∙ t.so_far.counted;
        left = t.left;
        reached = mid-reached;
        seen = λ P.
            reached_then (Seen mid g) calls call
            (λ Q r. let was = t.so_far.seen Q r in (was.0, λ p same. known_grown (grown-accept d c view) p (was.1 p same)))
            first-seen
            spare-seen
            (λ S x a. mend-seen)
            (λ fills. absurd (t.unfilled fills));
        marked = t.marked;
        holds = t.holds;
      }
