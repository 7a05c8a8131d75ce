-- The messages that the view holds are those that the calls hold, at places g further on, g being the numbers that have left; and exclusive
-- ors of three rows of octets. Assumes nothing.
use Prim.Native.Nat.{ℕ, ◌+◌, ◌-◌, ◌*◌, ◌≤◌, ◌<◌}
use mathlib.Core.Path.{◌≡◌, refl, sym, ap, ap₂, subst, ◌∙◌}
use mathlib.Core.List.Memᴰ.{head as here}
use mathlib.Core.List.Memᴰ.{tail as further}
use mathlib.Core.List.{List, [], ◌∷◌, map, Memᴰ as Among}
use lib.ListN.{length, get_or}
use lib.Bits.{bit_xor, xor_self, xor_zero_r}
use native.Mathlib.Omega.{arith}
use Rattle.octets.specs.ExclusiveOr.{xor_at}
use Rattle.octets.proofs.Laws.{xor_assoc, xor-cancel-right, xor-left-comm, tab-among}
use Rattle.datagram.specs.Sizes.{covered_limit, messages_limit}
use Rattle.session.specs.Cells.{kept_before, kept_ahead, kept_numbers}
use Rattle.session.specs.Held.{Held, held_at, message_at, messages_of, held_messages}
use Rattle.session.specs.Repair.{Message}
use Rattle.session.specs.View.{View}
use Rattle.session.specs.Offer.{held_by}
use Rattle.session.proofs.Laws.{member-in-reach, held-at, messages_of-among, reach-kept}
use Rattle.demands.specs.Common.Calls.{Calls}
use Rattle.demands.specs.Demand2.ReachedBy.{HeldBy}
use Rattle.demands.proofs.Places.{members-on}
use Rattle.demands.proofs.Reaching.{Knows}

-- ---- exclusive ors of three rows
xor-pairs : (a b c d : ℕ) → bit_xor (bit_xor a b) (bit_xor c d) ≡ bit_xor (bit_xor a c) (bit_xor b d)
xor-pairs a b c d = xor_assoc a b (bit_xor c d) ∙ ap (bit_xor a) (xor-left-comm b c d) ∙ sym (xor_assoc a c (bit_xor b d))

pub xor-sums : (z s x y : ℕ → List ℕ) (j : ℕ) (l : List ℕ)
    → ((q : ℕ) → Among q l → get_or (z q) j 0 ≡ bit_xor (get_or (s q) j 0) (bit_xor (get_or (x q) j 0) (get_or (y q) j 0)))
    → xor_at (map z l) j ≡ bit_xor (xor_at (map s l) j) (bit_xor (xor_at (map x l) j) (xor_at (map y l) j))
unfolding xor_at
xor-sums z s x y j [] each = refl
xor-sums z s x y j (q ∷ l) each =
    ap₂ bit_xor (each q (here refl)) (xor-sums z s x y j l (λ r member. each r (further member)))
    ∙ xor-pairs (get_or (s q) j 0) (bit_xor (get_or (x q) j 0) (get_or (y q) j 0)) (xor_at (map s l) j)
    (bit_xor (xor_at (map x l) j) (xor_at (map y l) j))
    ∙ ap (bit_xor (bit_xor (get_or (s q) j 0) (xor_at (map s l) j)))
    (xor-pairs (get_or (x q) j 0) (get_or (y q) j 0) (xor_at (map x l) j) (xor_at (map y l) j))

-- what two that are the same add is nothing, and what adds nothing is two that are the same
pub adds_none : (s x y : ℕ) → x ≡ y → bit_xor s (bit_xor x y) ≡ s
adds_none s x y same = ap (λ (n : ℕ). bit_xor s (bit_xor n y)) same ∙ ap (bit_xor s) (xor_self y) ∙ xor_zero_r s

pub none-added : (s x y : ℕ) → s ≡ bit_xor s (bit_xor x y) → x ≡ y
none-added s x y e =
    let nothing : bit_xor x y ≡ 0 =
    sym (sym (xor_assoc s s (bit_xor x y)) ∙ ap (λ (n : ℕ). bit_xor n (bit_xor x y)) (xor_self s))
    ∙ ap (bit_xor s) (sym e)
    ∙ xor_self s in
    sym (xor-cancel-right x y) ∙ ap (λ (n : ℕ). bit_xor n y) nothing

pub map_on : (x : ℕ → List ℕ) (g : ℕ) (l : List ℕ) → map x (map (λ (q : ℕ). g + q) l) ≡ map (λ (q : ℕ). x (g + q)) l
map_on x g [] = refl
map_on x g (q ∷ l) = ap (λ (m : List (List ℕ)). x (g + q) ∷ m) (map_on x g l)

pub map_same : (x y : ℕ → List ℕ) (l : List ℕ) → ((q : ℕ) → x q ≡ y q) → map x l ≡ map y l
map_same x y [] same = refl
map_same x y (q ∷ l) same = ap₂ (λ (a : List ℕ) (m : List (List ℕ)). a ∷ m) (same q) (map_same x y l same)

-- ---- the messages of the view are those of the calls
-- a message, g places further on
abbrev pub on_by : ℕ → Message → Message
on_by g message = record { members = map (λ (q : ℕ). g + q) message.members; octets = message.octets }

-- a held message of the calls, as the view has it
pub record InTheView (view : View) (g : ℕ) (message : Message) : Type 0 where
  pub was : Message
  pub among : Among was (held_messages view.held)
  pub on : message ≡ on_by g was

module _ {calls : Calls} {g : ℕ} {view : View} (k : Knows calls g view) where
  reach : (e : ℕ) (h : Held) → e < kept_ahead → held_at view.held e ≡ h → h.n * length h.messages ≤ kept_before + e
  reach e h low is =
      let covered : h.n ≤ covered_limit = subst (λ (x : Held). x.n ≤ covered_limit) is (k.ranges.covered e low) in
      let less : length h.messages ≤ messages_limit =
      subst (λ (x : Held). length x.messages ≤ messages_limit) is (k.ranges.messages e low) in
      let within = reach-kept covered less in
      omega arith

  message-on : (e i : ℕ) (h : Held) → e < kept_ahead → held_at view.held e ≡ h
      → message_at (g + (kept_before + e)) h i ≡ on_by g (message_at (kept_before + e) h i)
  message-on e i h low is =
      ap (λ (l : List ℕ). record { members = l; octets = get_or h.messages i [] })
      (members-on g (kept_before + e) h.n (length h.messages) i (reach e h low is))

  pub view-held : (message : Message) → Among message (held_messages view.held) → HeldBy calls (on_by g message)
  unfolding held_messages
  view-held message among =
      let place = held-at kept_before view.held message among in
      let low : place.j < kept_ahead = rw k.ranges.heard at place.inside in
      let b = k.marked place.j low place.i place.low in
      record {
        S = g + (kept_before + place.j);
        datagram = b.datagram;
        arrived = b.arrived;
        stays = let so_far = k.left in omega arith;
        i = place.i;
        low = subst (λ (h : Held). place.i < length h.messages) b.is place.low;
        is =
            ap (on_by g) place.same
            ∙ sym (message-on place.j place.i (held_at view.held place.j) low refl)
            ∙ ap (λ (h : Held). message_at (g + (kept_before + place.j)) h place.i) b.is;
      }

  pub held-in-view : (message : Message) → HeldBy calls message → InTheView view g message
  unfolding held_messages messages_of
  held-in-view message m = there (m.S - (g + kept_before)) (let so_far = k.left in let from = m.stays in omega arith)
    where
      there : (e : ℕ) → m.S ≡ g + (kept_before + e) → InTheView view g message
      there e place =
          let holds = k.holds m.S m.datagram m.arrived e place in
          let h = held_by m.datagram.extra in
          record {
            was = message_at (kept_before + e) h m.i;
            among =
                messages_of-among kept_before view.held e _ (rw k.ranges.heard holds.0)
                (subst (λ (x : Held). Among (message_at (kept_before + e) h m.i) (messages_of (kept_before + e) x)) (sym holds.1)
                (tab-among (length h.messages) (message_at (kept_before + e) h) m.i m.low));
            on =
                m.is
                ∙ ap (λ (S : ℕ). message_at S h m.i) place
                ∙ message-on e m.i h holds.0 holds.1;
          }

  -- its members are in view
  pub member-low : (message : Message) → Among message (held_messages view.held) → (q : ℕ) → Among q message.members → q < kept_numbers
  unfolding held_messages
  member-low message among q member =
      let place = held-at kept_before view.held message among in
      let low : place.j < kept_ahead = rw k.ranges.heard at place.inside in
      let h = held_at view.held place.j in
      let before-it =
      (member-in-reach (kept_before + place.j) h.n (length h.messages) place.i (reach place.j h low refl) place.low
      (subst (λ (x : Message). Among q x.members) place.same member)
      ).before in
      omega arith
