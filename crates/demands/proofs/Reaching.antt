-- What a session knows is what the calls so far reached (Knows): so at the start, after a call that changed nothing, and once a
-- number left. Arriving has the same of an accepted offer. Places of the view are g places below those of the session, g
-- being the numbers that have left. Assumes nothing.
use Prim.Native.Nat.{ℕ, suc, ◌+◌, ◌≤◌, ◌<◌}
use mathlib.Core.Path.{◌≡◌, sym, ap, subst, ◌∙◌}
use mathlib.Core.Logic.{⊎_elim}
use mathlib.Core.Bool.{Bool, true}
use mathlib.Core.List.{List, [], ◌∷◌, ◌++◌, append-nil, Memᴰ as Among}
use mathlib.Core.Option.{none, none-ne-some}
use lib.ListN.{length, length-append}
use native.Mathlib.Omega.{arith}
use Rattle.octets.proofs.Laws.{below_or_not}
use Rattle.datagram.specs.Carried.{Carried}
use Rattle.session.specs.Cells.{kept_before, kept_ahead, kept_numbers}
use Rattle.session.specs.Held.{Held, held_at}
use Rattle.session.specs.Repair.{Message}
use Rattle.session.specs.Reached.{Known}
use Rattle.session.specs.View.{View, Counts, sum, fresh_view, gone_on}
use Rattle.session.specs.Offer.{held_by}
use Rattle.demands.specs.Common.History.{Left}
use Rattle.demands.specs.Common.Calls.{Call, Calls, start, ◌then◌, accepted_in, fills_in, left_in, left_by}
use Rattle.demands.specs.Demand2.ReachedBy.{gone, spare_at, HasSpare, Accepts, Arrived, now, before, HeldBy}
use Rattle.demands.specs.Demand2.ReachedBy.{InView, OneValueBy, ReachedBy, before_first, packet, spare, repaired, together, earlier}
use Rattle.demands.proofs.Ranges.{ViewInRanges}
use Rattle.demands.proofs.Shifted.{held_on, held-last}
use Rattle.demands.proofs.InRanges.{fresh-in-ranges, fresh-held, on-in-ranges}
use Rattle.demands.proofs.Steps.{gone-counts}
use Rattle.demands.proofs.Knowing.{fresh-known, left-known}

-- ---- one call more
-- what holds of all that was reached, of what the call brings, of what a message then held mends, and of what the held messages fix
-- together, holds of all
module _ (K : ℕ → Type 0) (calls : Calls) (call : Call) (old : (P : ℕ) → ReachedBy calls P → K P)
    (first : (S : ℕ) (c : Carried) → Accepts calls call S c → K S)
    (copies : (S : ℕ) (c : Carried) → Accepts calls call S c → (j : ℕ) → HasSpare c j → K (spare_at S j))
    (mends : (S : ℕ) (c : Carried) → Accepts calls call S c → (message : Message) → HeldBy (calls then call) message
    → 1 ≤ length message.octets → (P : ℕ) → Among P message.members
    → ((q : ℕ) → Among q message.members → (q ≡ P → ⊥) → K q)
    → K P)
    (fixes : fills_in call ≡ true → (P : ℕ) → InView calls P → (marked : ℕ → Bool) → ((q : ℕ) → marked q ≡ true → ReachedBy calls q)
    → OneValueBy calls marked P → K P) where
  by-packet : {S : ℕ} {c : Carried} → Arrived (calls then call) S c → K S
  by-packet (now a) = first _ _ a
  by-packet (before a) = old _ (packet a)

  by-spare : {S : ℕ} {c : Carried} → Arrived (calls then call) S c → (j : ℕ) → HasSpare c j → K (spare_at S j)
  by-spare (now a) j has = copies _ _ a j has
  by-spare (before a) j has = old _ (spare a j has)

  pub reached_then : {P : ℕ} → ReachedBy (calls then call) P → K P
  reached_then (before_first low) = old _ (before_first low)
  reached_then (packet a) = by-packet a
  reached_then (spare a j has) = by-spare a j has
  reached_then (repaired a message held long at others) =
      mends _ _ a message held long _ at (λ q member other. reached_then (others q member other))
  reached_then (together fills inside marked reach one) = fixes fills _ inside marked reach one
  reached_then (earlier r) = old _ r

-- ---- what holds after some calls
-- the place P of the session is not past the numbers in view, and if it is among them, it is known
abbrev pub Seen : View → ℕ → ℕ → Type 0
Seen view g P = (P < g + kept_numbers) × ((p : ℕ) → P ≡ g + p → Known view.cells p)

-- what is held at distance d is that of a datagram which arrived there
pub record Brought (calls : Calls) (g d : ℕ) (held : Held) : Type 0 where
  pub datagram : Carried
  pub arrived : Arrived calls (g + (kept_before + d)) datagram
  pub is : held ≡ held_by datagram.extra

pub record Knows (calls : Calls) (g : ℕ) (view : View) : Type 0 where
  pub ranges : ViewInRanges view
  pub counted : sum view.counts ≡ g
  pub left : gone calls ≡ g
  pub reached : (p : ℕ) → p < kept_numbers → Known view.cells p → ReachedBy calls (g + p)
  pub seen : (P : ℕ) → ReachedBy calls P → Seen view g P
  -- each message that is held is one of a datagram that arrived
  pub marked : (d : ℕ) → d < kept_ahead → (i : ℕ) → i < length (held_at view.held d).messages
      → Brought calls g d (held_at view.held d)
  -- what arrived and has not left is held
  pub holds : (S : ℕ) (c : Carried) → Arrived calls S c → (d : ℕ) → S ≡ g + (kept_before + d)
      → (d < kept_ahead) × (held_at view.held d ≡ held_by c.extra)

-- ---- the start
none-arrived : {S : ℕ} {c : Carried} → Arrived start S c → ⊥
none-arrived a = elim a [ ]

start_seen : {P : ℕ} → ReachedBy start P → P < kept_before
start_seen (before_first low) = low
start_seen (packet a) = absurd (none-arrived a)
start_seen (spare a j has) = absurd (none-arrived a)

pub knows_start : Knows start 0 fresh_view
unfolding fresh_view left_by
knows_start =
    record {
      ranges = fresh-in-ranges;
      counted = omega arith;
      left = omega arith;
      reached = λ p small known. let low = (fresh-known p small).0 known in before_first {p = 0 + p} (omega arith);
      seen = λ P r.
          let low = start_seen r in
          (omega arith, λ p same. (fresh-known p (omega arith)).1 (omega arith));
      marked = λ d low i few.
          absurd (let none = subst (λ (h : Held). i < length h.messages) (fresh-held d low) few in omega arith);
      holds = λ S c a. absurd (none-arrived a);
    }

-- ---- a call that is no accepted offer
module _ {calls : Calls} {g : ℕ} {view : View} (k : Knows calls g view) (call : Call) (nothing : accepted_in call ≡ none)
    (unfilled : fills_in call ≡ true → ⊥) where
  no-accepts : {S : ℕ} {c : Carried} → Accepts calls call S c → ⊥
  no-accepts a = none-ne-some a.octets (sym nothing ∙ a.accepted)

  was-arrived : {S : ℕ} {c : Carried} → Arrived (calls then call) S c → Arrived calls S c
  was-arrived (now a) = absurd (no-accepts a)
  was-arrived (before a) = a

  -- nothing is reached that was not
  was-reached : {P : ℕ} → ReachedBy (calls then call) P → ReachedBy calls P
  was-reached =
      reached_then (ReachedBy calls) calls call (λ P r. r) (λ S c a. absurd (no-accepts a)) (λ S c a j has. absurd (no-accepts a))
      (λ S c a message held long P at others. absurd (no-accepts a))
      (λ fills. absurd (unfilled fills))

  -- it was refused
  pub knows-stays : left_in call ≡ [] → Knows (calls then call) g view
  unfolding left_by
  knows-stays stays =
      record {
        ranges = k.ranges;
        counted = k.counted;
        left = ap (λ (l : List Left). length (left_by calls ++ l)) stays ∙ ap length (append-nil (left_by calls)) ∙ k.left;
        reached = λ p small known. earlier (k.reached p small known);
        seen = λ P r. k.seen P (was-reached r);
        marked = λ d low i few.
            let b = k.marked d low i few in
            record { datagram = b.datagram; arrived = before b.arrived; is = b.is };
        holds = λ S c a. k.holds S c (was-arrived a);
      }

  -- a number left
  module _ (counts : Counts) (more : sum counts ≡ sum view.counts + 1) where
    abbrev on : View
    on = gone_on counts view

    on-reached : (p : ℕ) → p < kept_numbers → Known on.cells p → ReachedBy (calls then call) (suc g + p)
    on-reached p small known =
        let was = (left-known view k.ranges counts p small).0 known in
        let place : g + suc p ≡ suc g + p = omega arith in
        earlier (subst (ReachedBy calls) place (k.reached (suc p) was.0 was.1))

    on-seen : (P : ℕ) → ReachedBy (calls then call) P → Seen on (suc g) P
    on-seen P r =
        let was = k.seen P (was-reached r) in
        let inside = was.0 in (
          omega arith,
          λ p same.
              let place : P ≡ g + suc p = omega arith in
              (left-known view k.ranges counts p (omega arith)).1 (omega arith, was.1 (suc p) place),
        )

    inside-held : {d : ℕ} → suc d < kept_ahead → suc d < length view.held
    inside-held inside = omega (arith, k.ranges.heard)

    on-marked : (d : ℕ) → d < kept_ahead → (i : ℕ) → i < length (held_at on.held d).messages
        → Brought (calls then call) (suc g) d (held_at on.held d)
    on-marked d low i few =
        ⊎_elim
        (λ inside.
        let same = held_on counts view d (inside-held inside) in
        let b = k.marked (suc d) inside i (subst (λ (h : Held). i < length h.messages) same few) in
        let place : g + (kept_before + suc d) ≡ suc g + (kept_before + d) = omega arith in
        record {
          datagram = b.datagram;
          arrived = before (subst (λ (S : ℕ). Arrived calls S b.datagram) place b.arrived);
          is = same ∙ b.is;
        })
        (λ last.
        let same = held-last counts view d (omega (arith, k.ranges.heard)) in
        let none-held = subst (λ (h : Held). i < length h.messages) same few in
        absurd (omega arith))
        (below_or_not (suc d) kept_ahead)

    on-holds : (S : ℕ) (c : Carried) → Arrived (calls then call) S c → (d : ℕ) → S ≡ suc g + (kept_before + d)
        → (d < kept_ahead) × (held_at on.held d ≡ held_by c.extra)
    on-holds S c a d place =
        let was = k.holds S c (was-arrived a) (suc d) (omega arith) in
        let inside = was.0 in
        (omega arith, held_on counts view d (inside-held inside) ∙ was.1)

    pub knows-left : (x : Left) → left_in call ≡ x ∷ [] → Knows (calls then call) (suc g) on
    unfolding left_by
    knows-left x leaves =
        record {
          ranges = on-in-ranges counts view k.ranges more;
          counted = let total = k.counted in ap sum (gone-counts counts view) ∙ omega arith;
          left =
              ap (λ (l : List Left). length (left_by calls ++ l)) leaves
              ∙ (let long = length-append (left_by calls) (x ∷ []) in let before-it = k.left in omega arith);
          reached = on-reached;
          seen = on-seen;
          marked = on-marked;
          holds = on-holds;
        }
