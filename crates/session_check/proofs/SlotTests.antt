-- The tests of one slot, taken apart and put together, and what the view has of the slot. Over a layout that is right a cell of the view
-- has as many octets as its slot's size says, so a test of the slot is the view's test. Assumes nothing.
use Rattle.std.proofs.Common.{◌≡◌, ℕ, ◌+◌, ◌<◌, Bool, true, not, ◌&&◌, eqb, leb, List, [], length, get_or, sym, ap, ◌∙◌, arith, le-leb}
use Rattle.octets.specs.Place.{tab, all_below}
use Rattle.octets.proofs.Laws.{and_left, and_right, and_both, all_below-at, all_below-of, length-tab}
use Rattle.datagram.specs.Sizes.{message_limit, messages_limit}
use Rattle.session.specs.Cells.{Cell, cell_at, is_unknown, kept_before, kept_ahead, kept_numbers}
use Rattle.session_slots.specs.Store.{zeros_past}
use Rattle.session.specs.Ranges.{size_right, note_right, cell_right, cell_noted, mark_right, held_right, known_at}
use Rattle.session_held.specs.Slots.{slots_heard, slot_at}
use Rattle.session_held.specs.Table.{Lent, last_state, state_in, size_in, note_in, mark_in, n_in, m_in, state_numbered, cell_in, message_in, held_in}
use Rattle.session_held.specs.Table.{cells_of}
use Rattle.session_held.specs.Table.{view_in}
use Rattle.session_held.specs.Laid.{message_laid, Laid}
use Rattle.session_held.proofs.Laws.{slot_small, cell-at, unknown-at, octets-long, message-length}
use Rattle.session_check.specs.Pieces.{state_right, marked_right, heard_right}

-- ---- a slot's test taken apart
pub record KeptSeen (t o : List ℕ) (i : ℕ) (blank : Bool) : Type 0 where
  pub number : leb (state_in t i) last_state ≡ true
  pub size : size_right (state_numbered (state_in t i)) (size_in t i) blank ≡ true
  pub zeros : zeros_past o i (size_in t i) ≡ true

pub kept_seen : (t o : List ℕ) (i : ℕ) (blank : Bool) → state_right (state_in t i) (size_in t i) blank ≡ true
    → zeros_past o i (size_in t i) ≡ true → KeptSeen t o i blank
unfolding state_right
kept_seen t o i blank e zeros =
    let number = leb (state_in t i) last_state in
    let size = size_right (state_numbered (state_in t i)) (size_in t i) blank in
    record { number = and_left number size e; size = and_right number size e; zeros = zeros }

pub record HeardSeen (t g : List ℕ) (j : ℕ) (known : Bool) : Type 0 where
  pub number : leb (mark_in t j) 1 ≡ true
  pub mark : mark_right (eqb (mark_in t j) 1) known (n_in t j) (m_in t j) ≡ true
  pub message : (i : ℕ) → i < messages_limit → message_laid t g j (m_in t j) i ≡ true

pub heard-seen : (t g : List ℕ) (j : ℕ) (known : Bool) → heard_right t g j known ≡ true → HeardSeen t g j known
unfolding heard_right marked_right
heard-seen t g j known e =
    let number = leb (mark_in t j) 1 in
    let mark = mark_right (eqb (mark_in t j) 1) known (n_in t j) (m_in t j) in
    let each = all_below messages_limit (message_laid t g j (m_in t j)) in
    let both = and_left (number && mark) each e in
    record {
      number = and_left number mark both;
      mark = and_right number mark both;
      message = all_below-at messages_limit (message_laid t g j (m_in t j)) (and_right (number && mark) each e);
    }

pub seen-heard : {t g : List ℕ} {j : ℕ} {known : Bool} → HeardSeen t g j known → heard_right t g j known ≡ true
unfolding heard_right marked_right
seen-heard s = and_both (and_both s.number s.mark) (all_below-of messages_limit _ s.message)

-- a note's test and the view's
pub note-told : (base : ℕ) (t o : List ℕ) (p number : ℕ) → p < kept_numbers
    → cell_noted (cell_at (cells_of base t o) p) number
    ≡ note_right (state_numbered (state_in t (slot_at base p))) (note_in t (slot_at base p)) number
unfolding cell_in
note-told base t o p number below = ap (λ (c : Cell). cell_noted c number) (cell-at base t o p below)

-- ---- a slot's test and the view's, of what is laid
module _ {t o g : List ℕ} (laid : Laid t o g) where
  pub cell-told : (base p : ℕ) → p < kept_numbers → (blank : Bool)
      → cell_right (cell_at (cells_of base t o) p) blank
      ≡ size_right (state_numbered (state_in t (slot_at base p))) (size_in t (slot_at base p)) blank
  unfolding cell_in
  cell-told base p below blank =
      ap (λ (c : Cell). cell_right c blank) (cell-at base t o p below)
      ∙ ap (λ (n : ℕ). size_right (state_numbered (state_in t (slot_at base p))) n blank) (octets-long laid (slot_at base p) (slot_small base p))

  pub held-of-mark : (j : ℕ) → j < slots_heard → (known : Bool) → mark_right (eqb (mark_in t j) 1) known (n_in t j) (m_in t j) ≡ true
      → held_right (held_in t g j) known ≡ true
  unfolding held_right held_in
  held-of-mark j small known e =
      and_both
      (ap (λ (m : ℕ). mark_right (eqb (mark_in t j) 1) known (n_in t j) m) (length-tab (m_in t j) (message_in t g j)) ∙ e)
      (all_below-of (length (tab (m_in t j) (message_in t g j))) _
      (λ i low.
      let inside : i < m_in t j = rw (length-tab (m_in t j) (message_in t g j)) at low in
      let few : i < messages_limit = omega (arith, laid.few j small) in
      le-leb (length (get_or (tab (m_in t j) (message_in t g j)) i [])) message_limit
      (rw (message-length laid j i small few) (laid.part j i small few))))

  pub mark-of-held : (j : ℕ) (known : Bool) → held_right (held_in t g j) known ≡ true
      → mark_right (eqb (mark_in t j) 1) known (n_in t j) (m_in t j) ≡ true
  unfolding held_right held_in
  mark-of-held j known e =
      sym (ap (λ (m : ℕ). mark_right (eqb (mark_in t j) 1) known (n_in t j) m) (length-tab (m_in t j) (message_in t g j)))
      ∙ and_left (mark_right (eqb (mark_in t j) 1) known (n_in t j) (length (tab (m_in t j) (message_in t g j)))) _ e

pub known-told : (l : Lent) (d : ℕ) → d < kept_ahead
    → known_at (view_in l) (kept_before + d) ≡ not (is_unknown (state_numbered (state_in l.table (slot_at l.base (kept_before + d)))))
unfolding view_in
known-told l d below = ap not (unknown-at l.base l.table l.octets (kept_before + d) (omega arith))
