-- Solving makes known what it makes reached (rules 14.2 and 28.5): the places for which the held messages and the reached places allow one
-- value. Two rows of octets that the messages do not tell apart, added to a solution, give another; and two solutions are two such rows.
-- Assumes nothing.
use Prim.Native.Nat.{ℕ, ◌+◌, ◌-◌, ◌≤◌, ◌<◌}
use mathlib.Core.Path.{◌≡◌, sym, ap, subst, ◌∙◌}
use mathlib.Core.Logic.{⊎_elim}
use mathlib.Core.Bool.{Bool, true, not, cond, ◌&&◌}
use mathlib.Core.List.{List, [], ◌++◌, map, append-nil, Memᴰ as Among}
use mathlib.Core.Option.{none, none-ne-some}
use lib.ListN.{length, get_or}
use lib.Seq.{ext_get_or}
use lib.Bits.{bit_xor}
use lib.Dec.{leb, ltb}
use native.Mathlib.Omega.{arith}
use borrow.Author.Tests.{leb-true, ltb-true, le-leb, lt-leb, lt-ltb, not-true}
use Rattle.octets.specs.Place.{tab}
use Rattle.octets.specs.ExclusiveOr.{xor_at, exclusive_or}
use Rattle.octets.proofs.Laws.{exclusive_or-at, length-tab, tab-at, tab-ext, below_or_not, true-or-false, and_left, and_right, and_both}
use Rattle.datagram.specs.Sizes.{packet_limit}
use Rattle.datagram.specs.Carried.{Carried}
use Rattle.session.specs.Cells.{unknown_at, kept_numbers}
use Rattle.session.specs.Held.{Held, held_at, held_messages}
use Rattle.session.specs.Repair.{Message}
use Rattle.session.specs.Reached.{Known, Unknown}
use Rattle.session.specs.View.{View, sum}
use Rattle.solve.specs.Equations.{padded, Solution, OneValue}
use Rattle.solve.specs.Solved.{SolvedTo}
use Rattle.solve.proofs.Laws.{length-padded, stays-known, known-one, one_known}
use Rattle.demands.specs.Common.History.{Left}
use Rattle.demands.specs.Common.Calls.{Call, Calls, ◌then◌, accepted_in, fills_in, left_in, left_by}
use Rattle.demands.specs.Demand2.ReachedBy.{Accepts, Arrived, now, before, AgreeAtMarked, OneValueBy, ReachedBy, together, earlier}
use Rattle.demands.proofs.SolveDone.{SolveDone, solved-in-ranges}
use Rattle.demands.proofs.Reaching.{reached_then, Seen, Knows}
use Rattle.demands.proofs.ViewMessages.{xor-sums, adds_none, none-added, map_on, map_same, on_by, view-held, held-in-view, member-low}

-- ---- what is known is reached
module _ {calls : Calls} {g : ℕ} {view : View} (k : Knows calls g view) where
  -- the known places in view
  abbrev marked : ℕ → Bool
  marked q = (leb g q && ltb q (g + kept_numbers)) && not (unknown_at view.cells (q - g))

  marked-reached : (q : ℕ) → marked q ≡ true → ReachedBy calls q
  marked-reached q e =
      let inside = and_left (leb g q && ltb q (g + kept_numbers)) (not (unknown_at view.cells (q - g))) e in
      let low = leb-true g q (and_left (leb g q) (ltb q (g + kept_numbers)) inside) in
      let high = ltb-true q (g + kept_numbers) (and_right (leb g q) (ltb q (g + kept_numbers)) inside) in
      let known =
      not-true (unknown_at view.cells (q - g))
      (and_right (leb g q && ltb q (g + kept_numbers)) (not (unknown_at view.cells (q - g))) e) in
      let place : g + (q - g) ≡ q = omega arith in
      subst (ReachedBy calls) place (k.reached (q - g) (omega arith) known)

  known-marked : (q : ℕ) → q < kept_numbers → Known view.cells q → marked (g + q) ≡ true
  known-marked q small known =
      let place : (g + q) - g ≡ q = omega arith in
      and_both (and_both (le-leb g (g + q) (omega arith)) (lt-ltb (g + q) (g + kept_numbers) (omega arith)))
      (ap (λ (n : ℕ). not (unknown_at view.cells n)) place ∙ ap not known)

  -- two rows that the held messages do not tell apart, and a solution
  module _ {x y s : ℕ → List ℕ} (a : AgreeAtMarked calls marked x y) (sol : Solution view.cells (held_messages view.held) s) where
    added : ℕ → List ℕ
    added q = tab packet_limit (λ j. bit_xor (get_or (s q) j 0) (bit_xor (get_or (x (g + q)) j 0) (get_or (y (g + q)) j 0)))

    -- their difference is added where the number is unknown
    other : ℕ → List ℕ
    other q = cond (unknown_at view.cells q) (added q) (s q)

    other-known : (q : ℕ) → Known view.cells q → other q ≡ s q
    unfolding other
    other-known q known = ap (λ (b : Bool). cond b (added q) (s q)) known

    other-unknown : (q : ℕ) → Unknown view.cells q → other q ≡ added q
    unfolding other
    other-unknown q unknown = ap (λ (b : Bool). cond b (added q) (s q)) unknown

    added-at : (q j : ℕ) → j < packet_limit
        → get_or (added q) j 0 ≡ bit_xor (get_or (s q) j 0) (bit_xor (get_or (x (g + q)) j 0) (get_or (y (g + q)) j 0))
    unfolding added
    added-at q j inside =
        tab-at packet_limit (λ n. bit_xor (get_or (s q) n 0) (bit_xor (get_or (x (g + q)) n 0) (get_or (y (g + q)) n 0))) j 0 inside

    other_at : (q : ℕ) → q < kept_numbers → (j : ℕ) → j < packet_limit
        → get_or (other q) j 0 ≡ bit_xor (get_or (s q) j 0) (bit_xor (get_or (x (g + q)) j 0) (get_or (y (g + q)) j 0))
    other_at q small j inside =
        ⊎_elim (λ unknown. ap (λ (l : List ℕ). get_or l j 0) (other-unknown q unknown) ∙ added-at q j inside)
        (λ known.
        ap (λ (l : List ℕ). get_or l j 0) (other-known q known)
        ∙ sym (adds_none (get_or (s q) j 0) (get_or (x (g + q)) j 0) (get_or (y (g + q)) j 0)
        (ap (λ (l : List ℕ). get_or l j 0) (a.agree (g + q) (known-marked q small known)))))
        (true-or-false (unknown_at view.cells q))

    other-long : (q : ℕ) → length (other q) ≡ packet_limit
    unfolding added
    other-long q =
        ⊎_elim (λ unknown. ap length (other-unknown q unknown) ∙ length-tab packet_limit _)
        (λ known. ap length (other-known q known) ∙ sol.long q)
        (true-or-false (unknown_at view.cells q))

    sums_same : (message : Message) → Among message (held_messages view.held) → (j : ℕ) → j < packet_limit
        → xor_at (map (λ (q : ℕ). x (g + q)) message.members) j ≡ xor_at (map (λ (q : ℕ). y (g + q)) message.members) j
    sums_same message among j inside =
        ap (λ (l : List (List ℕ)). xor_at l j) (sym (map_on x g message.members))
        ∙ sym (exclusive_or-at packet_limit (map x (map (λ (q : ℕ). g + q) message.members)) j inside)
        ∙ ap (λ (l : List ℕ). get_or l j 0) (a.messages (on_by g message) (view-held k message among))
        ∙ exclusive_or-at packet_limit (map y (map (λ (q : ℕ). g + q) message.members)) j inside
        ∙ ap (λ (l : List (List ℕ)). xor_at l j) (map_on y g message.members)

    other-equation : (message : Message) → Among message (held_messages view.held)
        → exclusive_or packet_limit (map other message.members) ≡ exclusive_or packet_limit (map s message.members)
    unfolding exclusive_or
    other-equation message among =
        tab-ext packet_limit (xor_at (map other message.members)) (xor_at (map s message.members))
        (λ j inside.
        xor-sums other s (λ (q : ℕ). x (g + q)) (λ (q : ℕ). y (g + q)) j message.members
        (λ q member. other_at q (member-low k message among q member) j inside)
        ∙ adds_none (xor_at (map s message.members) j) (xor_at (map (λ (q : ℕ). x (g + q)) message.members) j)
        (xor_at (map (λ (q : ℕ). y (g + q)) message.members) j)
        (sums_same message among j inside))

    other-solution : Solution view.cells (held_messages view.held) other
    other-solution =
        record {
          long = other-long;
          known = λ q known. other-known q known ∙ sol.known q known;
          equation = λ message among. other-equation message among ∙ sol.equation message among;
        }

    alike_same : (p : ℕ) → Unknown view.cells p → s p ≡ other p → x (g + p) ≡ y (g + p)
    alike_same p unknown same =
        ext_get_or 0 (x (g + p)) (y (g + p)) (a.first_long (g + p) ∙ sym (a.second_long (g + p)))
        (λ j below.
        let long = a.first_long (g + p) in
        none-added (get_or (s p) j 0) (get_or (x (g + p)) j 0) (get_or (y (g + p)) j 0)
        (ap (λ (l : List ℕ). get_or l j 0) (same ∙ other-unknown p unknown) ∙ added-at p j (omega arith)))

  one-value-by : {last : View} → SolvedTo view last → (p : ℕ) → Unknown view.cells p
      → OneValue view.cells (held_messages view.held) p → OneValueBy calls marked (g + p)
  one-value-by solved p unknown one x y a =
      let some = solved.cells.some in
      alike_same a some.1 p unknown (one some.0 (other a some.1) some.1 (other-solution a some.1))

  -- ---- what is reached is known
  -- a row of the view, as one of the session's places
  abbrev spread : (ℕ → List ℕ) → ℕ → List ℕ
  spread u q = cond (leb g q) (u (q - g)) (padded [])

  spread-in : (u : ℕ → List ℕ) (q : ℕ) → g ≤ q → spread u q ≡ u (q - g)
  spread-in u q low = ap (λ (b : Bool). cond b (u (q - g)) (padded [])) (le-leb g q low)

  spread-out : (u : ℕ → List ℕ) (q : ℕ) → q < g → spread u q ≡ padded []
  spread-out u q out = ap (λ (b : Bool). cond b (u (q - g)) (padded [])) (lt-leb g q out)

  spread_at : (u : ℕ → List ℕ) (q : ℕ) → spread u (g + q) ≡ u q
  spread_at u q = let place : (g + q) - g ≡ q = omega arith in spread-in u (g + q) (omega arith) ∙ ap u place

  spread-long : (u : ℕ → List ℕ) → ((q : ℕ) → length (u q) ≡ packet_limit) → (q : ℕ) → length (spread u q) ≡ packet_limit
  spread-long u long q =
      ⊎_elim (λ out. ap length (spread-out u q out) ∙ length-padded []) (λ low. ap length (spread-in u q low) ∙ long (q - g))
      (below_or_not q g)

  spread-map : (u : ℕ → List ℕ) (l : List ℕ) → map (spread u) (map (λ (q : ℕ). g + q) l) ≡ map u l
  spread-map u l = map_on (spread u) g l ∙ map_same (λ (q : ℕ). spread u (g + q)) u l (spread_at u)

  module _ (some : ℕ → Bool) (reach : (q : ℕ) → some q ≡ true → ReachedBy calls q) {u v : ℕ → List ℕ}
      (su : Solution view.cells (held_messages view.held) u) (sv : Solution view.cells (held_messages view.held) v) where
    agrees : (q : ℕ) → some q ≡ true → spread u q ≡ spread v q
    agrees q e =
        ⊎_elim (λ out. spread-out u q out ∙ sym (spread-out v q out))
        (λ low.
        let known = (k.seen q (reach q e)).1 (q - g) (omega arith) in
        spread-in u q low ∙ su.known (q - g) known ∙ sym (sv.known (q - g) known) ∙ sym (spread-in v q low))
        (below_or_not q g)

    spread-message : {w : ℕ → List ℕ} → Solution view.cells (held_messages view.held) w → (was : Message)
        → Among was (held_messages view.held)
        → exclusive_or packet_limit (map (spread w) (on_by g was).members) ≡ padded was.octets
    spread-message {w} sw was among = ap (exclusive_or packet_limit) (spread-map w was.members) ∙ sw.equation was among

    solutions-alike : AgreeAtMarked calls some (spread u) (spread v)
    solutions-alike =
        record {
          first_long = spread-long u su.long;
          second_long = spread-long v sv.long;
          agree = agrees;
          messages = λ message held.
              let m = held-in-view k message held in
              ap (λ (x : Message). exclusive_or packet_limit (map (spread u) x.members)) m.on
              ∙ spread-message su m.was m.among
              ∙ sym (spread-message sv m.was m.among)
              ∙ sym (ap (λ (x : Message). exclusive_or packet_limit (map (spread v) x.members)) m.on);
        }

  by-one-value : (some : ℕ → Bool) → ((q : ℕ) → some q ≡ true → ReachedBy calls q) → (p : ℕ) → OneValueBy calls some (g + p)
      → OneValue view.cells (held_messages view.held) p
  by-one-value some reach p one u v su sv =
      sym (spread_at u p) ∙ one (spread u) (spread v) (solutions-alike some reach su sv) ∙ spread_at v p

-- ---- the call
module _ {calls : Calls} {g : ℕ} {view last : View} (k : Knows calls g view) (call : Call) (none-taken : accepted_in call ≡ none)
    (stays : left_in call ≡ []) (fills : fills_in call ≡ true) (o : SolveDone view last) (s : SolvedTo view last) where
  no-accepts : {S : ℕ} {c : Carried} → Accepts calls call S c → ⊥
  no-accepts a = none-ne-some a.octets (sym none-taken ∙ a.accepted)

  was-arrived : {S : ℕ} {c : Carried} → Arrived (calls then call) S c → Arrived calls S c
  was-arrived (now a) = absurd (no-accepts a)
  was-arrived (before a) = a

  now-reached : (p : ℕ) → p < kept_numbers → Known last.cells p → ReachedBy (calls then call) (g + p)
  now-reached p small known =
      ⊎_elim
      (λ unknown.
      together fills (let so_far = k.left in (omega arith, omega arith)) (marked k) (marked-reached k)
      (one-value-by k s p unknown (known-one s.cells p known)))
      (λ was. earlier (k.reached p small was))
      (true-or-false (unknown_at view.cells p))

  now-seen : (P : ℕ) → ReachedBy (calls then call) P → Seen last g P
  now-seen P =
      reached_then (Seen last g) calls call
      (λ Q r. let was = k.seen Q r in (was.0, λ p same. stays-known s.cells p (was.1 p same)))
      (λ S c a. absurd (no-accepts a))
      (λ S c a j has. absurd (no-accepts a))
      (λ S c a message held long Q at others. absurd (no-accepts a))
      (λ filled Q inside some reach one.
      let so_far = k.left in
      let high = inside.1 in (
        omega arith,
        λ p same. one_known s.cells p (by-one-value k some reach p (subst (OneValueBy calls some) same one)),
      ))

  pub knows-solved : Knows (calls then call) g last
  unfolding left_by
  knows-solved =
      record {
        ranges = solved-in-ranges o k.ranges;
        counted = ap sum o.counts ∙ k.counted;
        left = ap (λ (l : List Left). length (left_by calls ++ l)) stays ∙ ap length (append-nil (left_by calls)) ∙ k.left;
        reached = now-reached;
        seen = now-seen;
        marked = λ d low i few.
            let same = ap (λ (h : List Held). held_at h d) o.held in
            let b = k.marked d low i (subst (λ (h : Held). i < length h.messages) same few) in
            record { datagram = b.datagram; arrived = before b.arrived; is = same ∙ b.is };
        holds = λ S c a d place.
            let was = k.holds S c (was-arrived a) d place in
            (was.0, ap (λ (h : List Held). held_at h d) o.held ∙ was.1);
      }
