-- The base goes on by one, and what holds of a session fed by an honest sender still holds: every place is one further. Assumes
-- nothing.
use Prim.Native.Nat.{ℕ, suc, ◌+◌, ◌-◌, ◌*◌, ◌≤◌, ◌<◌}
use mathlib.Core.Path.{◌≡◌, refl, sym, ap, subst, ◌∙◌}
use mathlib.Core.Logic.{◌⊎◌, inl, inr, ⊎_elim}
use mathlib.Core.Bool.{true≢false, false≢true}
use mathlib.Core.List.{List, Memᴰ as Among}
use lib.ListN.{length}
use native.Mathlib.Nat.{suc-mul}
use native.Mathlib.Omega.{arith}
use Rattle.octets.specs.Place.{tab}
use Rattle.octets.proofs.Laws.{tab-among, below_or_not}
use Rattle.datagram.specs.Sizes.{spares_limit, covered_limit, messages_limit}
use Rattle.datagram.specs.Carried.{Carried}
use Rattle.session.specs.Cells.{Cell, cell_at, is_unknown, kept_before, kept_ahead, kept_numbers}
use Rattle.session.specs.Members.{member_at, members_of}
use Rattle.session.specs.Repair.{Message}
use Rattle.session.specs.Held.{Held, nothing_held, held_at, message_at, messages_of, held_messages}
use Rattle.session.specs.Reached.{Known, Closed}
use Rattle.session.specs.Honest.{UpToZeros, TrueCells}
use Rattle.session.proofs.Laws.{member-says, member-in-reach, held-at, messages_of-among, reach-kept}
use Rattle.session.specs.View.{View, Counts, sum, gone_on}
use Rattle.sender.specs.Honest.{packet_at}
use Rattle.demands.specs.Demand2.ReachedBy.{spares_in}
use Rattle.demands.specs.Demand3.Feeding.{place_of, sent_at}
use Rattle.demands.proofs.Ranges.{ViewInRanges}
use Rattle.demands.proofs.Shifted.{cell-on, cell-last, held_on, held-last, unknown-on}
use Rattle.demands.proofs.InRanges.{on-in-ranges}
use Rattle.demands.proofs.Knowing.{Brings, packet, copy}
use Rattle.demands.proofs.Sent.{Follows, follows-few}
use Rattle.demands.proofs.Sound.{Marked, Sound}

-- ---- a number leaves
-- the members of a message are one place further down
further-down : (S n m i q : ℕ) → n * m ≤ S → i < m → Among q (members_of S n m i) → Among (suc q) (members_of (suc S) n m i)
unfolding members_of
further-down S n m i q reach low among =
    let at = member-says S n m i reach low among in
    let total = at.sum in
    let place : suc q ≡ member_at (suc S) m i at.t = down at.t at.place at.within in
    subst (λ (x : ℕ). Among x (tab n (member_at (suc S) m i))) (sym place) (tab-among n (member_at (suc S) m i) at.t at.below)
  where
    down : (t : ℕ) → q ≡ member_at S m i t → t * m + m ≤ n * m → suc q ≡ member_at (suc S) m i t
    down t is few = let step = suc-mul t m in omega arith

further-up : (S n m i q : ℕ) → n * m ≤ S → i < m → Among q (members_of (suc S) n m i)
    → (r : ℕ) × (q ≡ suc r) × Among r (members_of S n m i)
unfolding members_of
further-up S n m i q reach low among =
    let at = member-says (suc S) n m i (omega arith) low among in
    (member_at S m i at.t, up at.t at.place at.within, tab-among n (member_at S m i) at.t at.below)
  where
    up : (t : ℕ) → q ≡ member_at (suc S) m i t → t * m + m ≤ n * m → q ≡ suc (member_at S m i t)
    up t is few = let step = suc-mul t m in omega arith

module _ {row datagrams : List (List ℕ)} {view : View} (s : Sound row datagrams view) (counts : Counts)
    (more : sum counts ≡ sum view.counts + 1) where
  abbrev on : View
  on = gone_on counts view

  on-ranges : ViewInRanges on
  on-ranges = on-in-ranges counts view s.ranges more

  on-place : place_of on ≡ place_of view + 1
  unfolding gone_on
  on-place = more

  cells-inside : {p : ℕ} → suc p < kept_numbers → suc p < length view.cells
  cells-inside inside = rw s.ranges.kept inside

  held-inside : {d : ℕ} → suc d < kept_ahead → suc d < length view.held
  held-inside inside = rw s.ranges.heard inside

  -- a known number was known one place further
  on-known : (p : ℕ) → p < kept_numbers → Known on.cells p → (suc p < kept_numbers) × Known view.cells (suc p)
  on-known p small k =
      ⊎_elim (λ inside. (inside, sym (unknown-on counts view p (cells-inside inside)) ∙ k))
      (λ last.
      absurd
      (true≢false
      (sym (ap (λ (c : Cell). is_unknown c.state) (cell-last counts view p (omega (arith, s.ranges.kept)))) ∙ k)))
      (below_or_not (suc p) kept_numbers)

  known_on : (p : ℕ) → suc p < kept_numbers → Known view.cells (suc p) → Known on.cells p
  known_on p inside k = unknown-on counts view p (cells-inside inside) ∙ k

  sent-on : (p : ℕ) → sent_at row view (suc p) ≡ sent_at row on p
  sent-on p = ap (packet_at row) (let place : place_of view + suc p ≡ place_of on + p = omega (arith, on-place) in place)

  on-right : TrueCells (sent_at row on) on.cells
  on-right p inside k =
      let was = on-known p (rw on-ranges.kept at inside) k in
      subst (λ (c : Cell). UpToZeros c.octets (sent_at row on p)) (sym (cell-on counts view p (cells-inside was.0)))
      (subst (UpToZeros (cell_at view.cells (suc p)).octets) (sent-on p) (s.right (suc p) (cells-inside was.0) was.1))

  -- what was brought is one place further down
  brings-on : (c : Carried) (d : ℕ) → suc d < kept_ahead → spares_in c.extra ≤ spares_limit → (p : ℕ) → Brings c d p
      → (suc p < kept_numbers) × Brings c (suc d) (suc p)
  brings-on c d low few p packet = (
    omega arith,
    subst (Brings c (suc d)) (let place : kept_before + suc d ≡ suc (kept_before + d) = omega arith in place) packet,
  )
  brings-on c d low few p (copy j less) = (
    omega arith,
    subst (Brings c (suc d)) (let place : kept_before + suc d - suc j ≡ suc (kept_before + d - suc j) = omega arith in place) (copy j less),
  )

  on-marked : (d : ℕ) → suc d < kept_ahead → Marked row datagrams view (suc d) → Marked row datagrams on d
  on-marked d inside m =
      let place : place_of view + suc d ≡ place_of on + d = omega (arith, on-place) in
      record {
        carried = m.carried;
        sent = subst (λ (x : ℕ). x < length row) place m.sent;
        follows = subst (λ (x : ℕ). Follows row datagrams x m.carried) place m.follows;
        held = held_on counts view d (held-inside inside) ∙ m.held;
        brings = λ p b.
            let was = brings-on m.carried d inside (follows-few m.follows) p b in
            known_on p was.0 (m.brings (suc p) was.1);
      }

  -- what is held at a distance was held one further, or it is nothing
  on-held : (d : ℕ) → d < kept_ahead
      → ((suc d < kept_ahead) × (held_at on.held d ≡ held_at view.held (suc d))) ⊎ (held_at on.held d ≡ nothing_held)
  on-held d low =
      ⊎_elim (λ inside. inl (inside, held_on counts view d (held-inside inside)))
      (λ last. inr (held-last counts view d (omega (arith, s.ranges.heard))))
      (below_or_not (suc d) kept_ahead)

  -- a message that is held was held one place further
  module _ (p : ℕ) (j i : ℕ) (inside : suc j < kept_ahead) (h : Held) (is : held_at view.held (suc j) ≡ h)
      (low : i < length h.messages) where
    abbrev n-of : ℕ
    n-of = h.n

    abbrev m-of : ℕ
    m-of = length h.messages

    reach_of : n-of * m-of ≤ kept_before + j
    reach_of =
        let few : n-of ≤ covered_limit = subst (λ (x : Held). x.n ≤ covered_limit) is (s.ranges.covered (suc j) inside) in
        let less : m-of ≤ messages_limit =
        subst (λ (x : Held). length x.messages ≤ messages_limit) is (s.ranges.messages (suc j) inside) in
        let reach = reach-kept few less in
        omega arith

    old-among : Among (message_at (suc (kept_before + j)) h i) (held_messages view.held)
    unfolding held_messages messages_of
    old-among =
        messages_of-among kept_before view.held (suc j) _ (held-inside inside)
        (subst (λ (x : Held). Among (message_at (suc (kept_before + j)) h i) (messages_of (kept_before + suc j) x)) (sym is)
        (subst (λ (x : ℕ). Among (message_at (suc (kept_before + j)) h i) (messages_of x h))
        (let place : suc (kept_before + j) ≡ kept_before + suc j = omega arith in place)
        (tab-among m-of (message_at (suc (kept_before + j)) h) i low)))

    closed_at : 1 ≤ length (message_at (kept_before + j) h i).octets → Among p (message_at (kept_before + j) h i).members
        → ((q : ℕ) → Among q (message_at (kept_before + j) h i).members → (q ≡ p → ⊥) → Known on.cells q)
        → Known on.cells p
    closed_at long at others =
        let before = (member-in-reach (kept_before + j) n-of m-of i reach_of low at).before in
        known_on p (omega arith)
        (s.closed (message_at (suc (kept_before + j)) h i) (suc p) old-among long
        (further-down (kept_before + j) n-of m-of i p reach_of low at)
        (λ q member other.
        let r = further-up (kept_before + j) n-of m-of i q reach_of low member in
        rw r.1
        (on-known r.0
        (let inside-r = (member-in-reach (kept_before + j) n-of m-of i reach_of low r.2).before in omega arith)
        (others r.0 r.2 (λ same. other (r.1 ∙ ap suc same)))
        ).1))

  on-closed : Closed (held_messages on.held) (Known on.cells)
  unfolding held_messages
  on-closed message p among long at others =
      let place = held-at kept_before on.held message among in
      ⊎_elim
      (λ was.
      let low : place.i < length (held_at view.held (suc place.j)).messages =
      subst (λ (x : Held). place.i < length x.messages) was.1 place.low in
      let same : message ≡ message_at (kept_before + place.j) (held_at view.held (suc place.j)) place.i =
      place.same ∙ ap (λ (x : Held). message_at (kept_before + place.j) x place.i) was.1 in
      closed_at p place.j place.i was.0 (held_at view.held (suc place.j)) refl low
      (subst (λ (x : Message). 1 ≤ length x.octets) same long)
      (subst (λ (x : Message). Among p x.members) same at)
      (λ q member other. others q (subst (λ (x : Message). Among q x.members) (sym same) member) other))
      (λ nothing.
      let low : place.i < length nothing_held.messages = subst (λ (x : Held). place.i < length x.messages) nothing place.low in
      absurd (omega arith))
      (on-held place.j (rw on-ranges.heard at place.inside))

  pub on-sound : Sound row datagrams on
  on-sound =
      record {
        ranges = on-ranges;
        right = on-right;
        marked = λ d low is.
            ⊎_elim (λ was. on-marked d was.0 (s.marked (suc d) was.0 (sym (ap (λ (h : Held). h.accepted) was.1) ∙ is)))
            (λ nothing. absurd (false≢true (sym (ap (λ (h : Held). h.accepted) nothing) ∙ is)))
            (on-held d low);
        unmarked = λ d low is.
            ⊎_elim (λ was. was.1 ∙ s.unmarked (suc d) was.0 (sym (ap (λ (h : Held). h.accepted) was.1) ∙ is)) (λ nothing. nothing)
            (on-held d low);
        blanks = λ p first. known_on p (omega (arith, on-place)) (s.blanks (suc p) (omega (arith, on-place)));
        closed = on-closed;
      }
