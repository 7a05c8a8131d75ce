-- The search for a usable message, on plain values: what the tests of the code say of a message of the view, and the first usable one of a
-- number's messages. Assumes nothing.
use Rattle.std.proofs.Common.{◌≡◌, ℕ, zero, suc, ◌+◌, ◌*◌, ◌<◌, ◌≤◌, true, false, cond, ◌&&◌, eqb, leb, List, [], length, get_or, refl, ap, ◌∙◌, ap₂, ⊎_elim, arith, ne_eqb, le-leb}
use mathlib.Core.Option.{none, some}
use Rattle.octets.specs.Place.{tab}
use Rattle.octets.proofs.Laws.{length-tab, tab-at, tab-ext, same_or_not}
use Rattle.datagram.specs.Sizes.{packet_limit, covered_limit, messages_limit}
use Rattle.session.specs.Cells.{Cell, kept_before, kept_ahead}
use Rattle.session.specs.Members.{members_of}
use Rattle.session.specs.Repair.{Message, unknown_members, usable, first_usable}
use Rattle.session.specs.Held.{messages_of, message_at}
use Rattle.session_slots.proofs.Laws.{length_part}
use Rattle.session.proofs.Laws.{reach-kept}
use Rattle.session.specs.View.{number_at}
use Rattle.session_held.specs.Slots.{slot_at, heard_slot_at, message_slot, slots_heard, slots_messages, message_octets}
use Rattle.session_held.specs.Table.{Lent, message_in, held_in, cells_of}
use Rattle.session_held.specs.Laid.{InRanges}
use Rattle.session_held.proofs.Laws.{n-small, heard-small, message-small, has-message-slot}
use Rattle.session_repair.specs.Back.{count_back, find_back}
use Rattle.session_repair.specs.Promise.{Searchable, n_at, m_at, message_size_at, message_held, missing_of, Seeable}
use Rattle.session_repair.proofs.Members.{counted, found-slot}

-- within the ranges the table can be searched
pub searchable : {l : Lent} → InRanges l → Searchable l.table
searchable w = record { long = w.laid.long; covered = n-small w; few = w.laid.few; part = w.laid.part }

-- ---- n and m of a number, how far its messages reach, and how long one is
module _ {t : List ℕ} (s : Searchable t) (base d : ℕ) where
  pub n-near : n_at base t d ≤ covered_limit
  n-near = s.covered (heard_slot_at base d) (heard-small base d)

  pub m-near : m_at base t d ≤ messages_limit
  m-near = s.few (heard_slot_at base d) (heard-small base d)

  pub reach_near : n_at base t d * m_at base t d ≤ kept_before
  reach_near = reach-kept n-near m-near

  pub size-near : (i : ℕ) → i < m_at base t d → message_size_at base t d i ≤ packet_limit
  size-near i low = s.part (heard_slot_at base d) i (heard-small base d) (omega (arith, m-near))

  pub octets-long : (g : List ℕ) → length g ≡ message_octets → (i : ℕ) → i < m_at base t d
      → length (message_held base t g d i).octets ≡ message_size_at base t d i
  unfolding message_held message_in
  octets-long g long i low =
      length_part g (message_slot (heard_slot_at base d) i) _
      (has-message-slot g _ long (message-small _ i (heard-small base d) (omega (arith, m-near)))) (size-near i low)

-- ---- what the search of a number's messages may read
module _ {t : List ℕ} {at slot n m : ℕ} (s : Seeable t at slot n m) where
  small_slot : slot < slots_heard
  small_slot = omega (arith, s.place)

  pub small_n : n ≤ covered_limit
  small_n = rw s.covered (s.table.covered slot small_slot)

  pub there : {i index : ℕ} → i < m → index ≡ i → slot * messages_limit + index < slots_messages
  there low e = omega (arith, low, small_slot, s.count, s.table.few slot small_slot)

both-tests : (size count : ℕ) → (leb 1 size && eqb count 1) ≡ eqb (cond (eqb size 0) 0 count) 1
both-tests size count =
    ⊎_elim (λ e. rw e) (λ some. rw (le-leb 1 size (omega arith), ne_eqb size 0 some)) (same_or_not size 0)

counted-one : (long count : ℕ) → cond (eqb long 0) 0 count ≡ 1 → count ≡ 1
counted-one long count e =
    ⊎_elim
    (λ z. let no : ◌≡◌ {A = ℕ} 0 1 = rw z at e in absurd (omega arith))
    (λ s. rw (ne_eqb long 0 s) at e)
    (same_or_not long 0)

-- ---- a message as the code sees it: how many members are unknown, and none where it has no octets
abbrev pub counts : ℕ → List ℕ → ℕ → ℕ → ℕ
counts base t d i = count_back t (number_at base (kept_before + d + i)) (n_at base t d) (m_at base t d)

abbrev pub missing_at : ℕ → List ℕ → ℕ → ℕ → ℕ
missing_at base t d i = missing_of (message_size_at base t d i) t (number_at base (kept_before + d + i)) (n_at base t d) (m_at base t d)

module _ {t : List ℕ} (s : Searchable t) (base d : ℕ) (near : d < kept_ahead) (i : ℕ) (low : i < m_at base t d) where
  -- the code's count is that of the unknown members
  unknown-count : (o g : List ℕ) → counts base t d i ≡ length (unknown_members (cells_of base t o) (message_held base t g d i))
  unfolding message_held members_of
  unknown-count o g =
      counted base t o (n_at base t d) (kept_before + d + i) (m_at base t d) (omega (arith, reach_near s base d)) (omega arith)
      (omega (arith, m-near s base d))

  -- and its test is whether the message is usable
  pub usable-is : (o g : List ℕ) → length g ≡ message_octets → usable (cells_of base t o) (message_held base t g d i)
      ≡ eqb (missing_at base t d i) 1
  unfolding usable
  usable-is o g long =
      rw (octets-long s base d g long i low, ← unknown-count o g) (both-tests (message_size_at base t d i) (counts base t d i))

  -- the slot that the code finds is that of the first unknown member
  pub target_is : (o g : List ℕ) → missing_at base t d i ≡ 1
      → find_back t (number_at base (kept_before + d + i)) (n_at base t d) (m_at base t d)
      ≡ slot_at base (get_or (unknown_members (cells_of base t o) (message_held base t g d i)) 0 0)
  unfolding message_held members_of
  target_is o g hit =
      let one : counts base t d i ≡ 1 = counted-one (message_size_at base t d i) (counts base t d i) hit in
      found-slot base t o (n_at base t d) (kept_before + d + i) (m_at base t d) (omega (arith, reach_near s base d)) (omega arith)
      (omega (arith, m-near s base d)) (omega (arith, one, unknown-count o g))

-- the messages held at a distance are those that the code goes through
pub message-is : (base : ℕ) (t g : List ℕ) (d i : ℕ) → i < m_at base t d
    → message_at (kept_before + d) (held_in t g (heard_slot_at base d)) i ≡ message_held base t g d i
unfolding held_in message_held
message-is base t g d i low =
    ap₂ (λ (m : ℕ) (l : List ℕ). record { members = members_of (kept_before + d) (n_at base t d) m i; octets = l })
    (length-tab (m_at base t d) (message_in t g (heard_slot_at base d)))
    (tab-at (m_at base t d) (message_in t g (heard_slot_at base d)) i [] low)

pub messages-long : (base : ℕ) (t g : List ℕ) (d : ℕ) → length (held_in t g (heard_slot_at base d)).messages ≡ m_at base t d
unfolding held_in
messages-long base t g d = length-tab (m_at base t d) (message_in t g (heard_slot_at base d))

pub messages-are : (base : ℕ) (t g : List ℕ) (d : ℕ)
    → messages_of (kept_before + d) (held_in t g (heard_slot_at base d)) ≡ tab (m_at base t d) (message_held base t g d)
unfolding messages_of
messages-are base t g d =
    ap (λ (n : ℕ). tab n (message_at (kept_before + d) (held_in t g (heard_slot_at base d)))) (messages-long base t g d)
    ∙ tab-ext (m_at base t d) _ _ (message-is base t g d)

-- ---- the first of a list given by place
pub first-none : (cells : List Cell) (n : ℕ) (f : ℕ → Message) → ((k : ℕ) → k < n → usable cells (f k) ≡ false)
    → first_usable cells (tab n f) ≡ none
unfolding tab first_usable
first-none cells zero f each = refl
first-none cells (suc n) f each = rw (each 0 (omega arith)) (first-none cells n (λ k. f (suc k)) (λ k low. each (suc k) (omega arith)))

pub first_some : (cells : List Cell) (n : ℕ) (f : ℕ → Message) (i : ℕ) → i < n → ((k : ℕ) → k < i → usable cells (f k) ≡ false)
    → usable cells (f i) ≡ true → first_usable cells (tab n f) ≡ some (f i)
unfolding tab first_usable
first_some cells zero f i low each hit = absurd (omega arith)
first_some cells (suc n) f zero low each hit = rw hit
first_some cells (suc n) f (suc i) low each hit =
    rw (each 0 (omega arith)) (first_some cells n (λ k. f (suc k)) i (omega arith) (λ k below. each (suc k) (omega arith)) hit)
