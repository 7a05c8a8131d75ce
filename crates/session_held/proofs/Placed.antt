-- A packet placed in the slot of an unknown number: the table takes a state, a size and a note, the store the octets. In the view one cell
-- is set, what is held stays, and all stays within the ranges. A place of the view other than that one has another slot, and the
-- writes leave that slot alone. Assumes nothing.
use Prim.Native.Nat.{ℕ, ◌+◌, ◌≤◌, ◌<◌}
use mathlib.Core.Path.{◌≡◌, sym, ap, ap₂, ◌∙◌}
use mathlib.Core.Bool.{true}
use mathlib.Core.List.{List}
use mathlib.Core.Logic.{⊎_elim}
use lib.ListN.{length, get_or, set, length-set}
use lib.Seq.{get_or-set_same, get_or-set_other}
use native.Mathlib.Omega.{arith}
use Rattle.octets.proofs.Laws.{same_or_not, tab-set, tab-ext}
use Rattle.octets.specs.Place.{tab}
use Rattle.datagram.specs.Sizes.{packet_least, packet_limit}
use Rattle.session.specs.Cells.{Cell, unknown_at, kept_ahead, kept_numbers}
use Rattle.session.specs.Held.{Held}
use Rattle.session.proofs.Laws.{unknown-inside, filled_at, filled-sound}
use Rattle.session_slots.specs.Store.{part, pasted, zeros_past, HasSlot}
use Rattle.session_slots.proofs.Laws.{length-pasted, part-pasted, part-pasted-other, zeros_past-pasted, zeros_past-other}
use Rattle.session.specs.Ranges.{is_fill, note_right}
use Rattle.session.specs.View.{number_at}
use Rattle.session_held.specs.Slots.{slot_at, heard_slot_at, message_slot, slots_kept}
use Rattle.session_held.specs.Table.{Lent, lent, counts_of, places, last_state, state_place, size_place, note_place, mark_place, n_place}
use Rattle.session_held.specs.Table.{m_place}
use Rattle.session_held.specs.Table.{message_place, state_in, size_in, note_in, m_in, state_numbered, cell_in, message_in, held_in, cells_of}
use Rattle.session_held.specs.Table.{held_of}
use Rattle.session_held.specs.Table.{view_in, kept_set}
use Rattle.session_held.specs.Laid.{Laid, InRanges}
use Rattle.session_held.proofs.Places.{long_kept, note-there, kept-elsewhere}
use Rattle.session_held.proofs.Seen.{cell_parts, length-cells, size_none}
use Rattle.session_held.proofs.Slots.{slot_small, slot_apart, has-packet-slot}

-- ---- what stands in the table after a kept number is written
module _ (t : List ℕ) (slot state size note : ℕ) (small : slot < slots_kept) where
  pub state-here : length t ≡ places → state_in (kept_set t slot state size note) slot ≡ state
  state-here long =
      get_or-set_other (set (set t (state_place slot) state) (size_place slot) size) (note_place slot) (state_place slot) note 0
      (λ e. omega arith)
      ∙ get_or-set_other (set t (state_place slot) state) (size_place slot) (state_place slot) size 0 (λ e. omega arith)
      ∙ get_or-set_same t (state_place slot) state 0 (omega arith)

  pub size-here : length t ≡ places → size_in (kept_set t slot state size note) slot ≡ size
  size-here long =
      get_or-set_other (set (set t (state_place slot) state) (size_place slot) size) (note_place slot) (size_place slot) note 0 (λ e. omega arith)
      ∙ get_or-set_same (set t (state_place slot) state) (size_place slot) size 0 (omega (arith, length-set t (state_place slot) state))

  pub note-here : length t ≡ places → note_in (kept_set t slot state size note) slot ≡ note
  note-here long =
      get_or-set_same (set (set t (state_place slot) state) (size_place slot) size) (note_place slot) note 0
      (note-there t (state_place slot) state (size_place slot) size slot long small)

  pub state-other : (i : ℕ) → i < slots_kept → (i ≡ slot → ⊥) → state_in (kept_set t slot state size note) i ≡ state_in t i
  state-other i low other = kept-elsewhere t slot state size note (state_place i) other (λ e. omega arith) (λ e. omega arith)

  pub size-other : (i : ℕ) → i < slots_kept → (i ≡ slot → ⊥) → size_in (kept_set t slot state size note) i ≡ size_in t i
  size-other i low other =
      kept-elsewhere t slot state size note (size_place i) (λ e. omega arith) (λ e. other (omega arith)) (λ e. omega arith)

  pub note-other : (i : ℕ) → i < slots_kept → (i ≡ slot → ⊥) → note_in (kept_set t slot state size note) i ≡ note_in t i
  note-other i low other =
      kept-elsewhere t slot state size note (note_place i) (λ e. omega arith) (λ e. omega arith) (λ e. other (omega arith))

  -- every place past the notes: marks, n, m and the sizes of messages
  pub beyond : (k : ℕ) → slots_kept + slots_kept + slots_kept ≤ k → get_or (kept_set t slot state size note) k 0 ≡ get_or t k 0
  beyond k big = kept-elsewhere t slot state size note k (λ e. omega arith) (λ e. omega arith) (λ e. omega arith)

  messages-stay : (g : List ℕ) (j i : ℕ) → message_in (kept_set t slot state size note) g j i ≡ message_in t g j i
  unfolding message_in
  messages-stay g j i = ap (λ (n : ℕ). part g (message_slot j i) n) (beyond (message_place (message_slot j i)) (omega arith))

  -- what is held in a slot stays
  pub held_stays : (g : List ℕ) (j : ℕ) → held_in (kept_set t slot state size note) g j ≡ held_in t g j
  unfolding held_in
  held_stays g j =
      rw (
        beyond (mark_place j) (omega arith),
        beyond (n_place j) (omega arith),
        beyond (m_place j) (omega arith),
        tab-ext (m_in t j) (message_in (kept_set t slot state size note) g j) (message_in t g j) (λ i low. messages-stay g j i),
      )

  pub placed-held : (base : ℕ) (g : List ℕ) → held_of base (kept_set t slot state size note) g ≡ held_of base t g
  unfolding held_of
  placed-held base g =
      tab-ext kept_ahead _ (λ d. held_in t g (heard_slot_at base d)) (λ d below. held_stays g (heard_slot_at base d))

-- ---- how it is laid
module _ {t o g : List ℕ} (laid : Laid t o g) (slot state note : ℕ) (b : List ℕ) (small : slot < slots_kept) (low : state ≤ last_state)
    (most : length b ≤ packet_limit) where
  has : HasSlot slot o
  has = has-packet-slot o slot laid.octets small

  state-each : (i : ℕ) → i < slots_kept → state_in (kept_set t slot state (length b) note) i ≤ last_state
  state-each i below =
      ⊎_elim (λ (e : i ≡ slot). rw (e, state-here t slot state (length b) note small laid.long) low)
      (λ other. rw (state-other t slot state (length b) note small i below other) (laid.state i below))
      (same_or_not i slot)

  size-each : (i : ℕ) → i < slots_kept → size_in (kept_set t slot state (length b) note) i ≤ packet_limit
  size-each i below =
      ⊎_elim (λ (e : i ≡ slot). rw (e, size-here t slot state (length b) note small laid.long) most)
      (λ other. rw (size-other t slot state (length b) note small i below other) (laid.size i below))
      (same_or_not i slot)

  packet-each : size_in t slot ≡ 0 → (i : ℕ) → i < slots_kept
      → zeros_past (pasted o slot b) i (size_in (kept_set t slot state (length b) note) i) ≡ true
  packet-each none i below =
      ⊎_elim
      (λ (e : i ≡ slot).
      let clean : zeros_past o slot 0 ≡ true = rw none at (laid.packet slot small) in
      rw (e, size-here t slot state (length b) note small laid.long) (zeros_past-pasted o slot b has most clean))
      (λ other.
      rw (size-other t slot state (length b) note small i below other, zeros_past-other o slot b has most i (size_in t i) other)
      (laid.packet i below))
      (same_or_not i slot)

  pub placed-laid : size_in t slot ≡ 0 → Laid (kept_set t slot state (length b) note) (pasted o slot b) g
  placed-laid none =
      let past = beyond t slot state (length b) note small in
      record {
        long = long_kept t slot state (length b) note laid.long;
        octets = length-pasted o slot b has most ∙ laid.octets;
        messages = laid.messages;
        state = state-each;
        size = size-each;
        packet = packet-each none;
        mark = λ j below. rw (past (mark_place j) (omega arith)) (laid.mark j below);
        few = λ j below. rw (past (m_place j) (omega arith)) (laid.few j below);
        part = λ j i below few. rw (past (message_place (message_slot j i)) (omega arith)) (laid.part j i below few);
        past =
            λ j i below few over.
            past (message_place (message_slot j i)) (omega arith)
            ∙ laid.past j i below few (rw (past (m_place j) (omega arith)) at over);
        message = λ j i below few. rw (past (message_place (message_slot j i)) (omega arith)) (laid.message j i below few);
      }

  -- ---- the cells
  cell-here : cell_in (kept_set t slot state (length b) note) (pasted o slot b) slot
      ≡ record { state = state_numbered state; octets = b; note = note }
  unfolding cell_in
  cell-here =
      cell_parts (ap state_numbered (state-here t slot state (length b) note small laid.long))
      (ap (part (pasted o slot b) slot) (size-here t slot state (length b) note small laid.long) ∙ part-pasted o slot b has most)
      (note-here t slot state (length b) note small laid.long)

  cell_other : (i : ℕ) → i < slots_kept → (i ≡ slot → ⊥) → cell_in (kept_set t slot state (length b) note) (pasted o slot b) i ≡ cell_in t o i
  unfolding cell_in
  cell_other i below other =
      cell_parts (ap state_numbered (state-other t slot state (length b) note small i below other))
      (ap (part (pasted o slot b) i) (size-other t slot state (length b) note small i below other)
      ∙ part-pasted-other o slot b has most i (size_in t i) (has-packet-slot o i laid.octets below) (laid.size i below) other)
      (note-other t slot state (length b) note small i below other)

  -- in the view the cell at that place is set
  pub placed-cells : (base p : ℕ) → p < kept_numbers → slot ≡ slot_at base p
      → cells_of base (kept_set t slot state (length b) note) (pasted o slot b)
      ≡ set (cells_of base t o) p (record { state = state_numbered state; octets = b; note = note })
  unfolding cells_of
  placed-cells base p inside e =
      tab-set kept_numbers _ (λ q. cell_in t o (slot_at base q)) p inside
      (λ q below other.
      cell_other (slot_at base q) (slot_small base q) (λ same. other (slot_apart base q p below inside (same ∙ e))))
      ∙ ap (λ (c : Cell). set (tab kept_numbers (λ q. cell_in t o (slot_at base q))) p c)
      (ap (λ (i : ℕ). cell_in (kept_set t slot state (length b) note) (pasted o slot b) i) (sym e) ∙ cell-here)

-- ---- all together, at place p of the view
module _ {l : Lent} (w : InRanges l) (p : ℕ) (free : unknown_at (cells_of l.base l.table l.octets) p ≡ true)
    (note state : ℕ) (low : state ≤ last_state) (fills : is_fill (state_numbered state) ≡ true)
    (noted : note_right (state_numbered state) note (number_at l.base p) ≡ true) (b : List ℕ)
    (least : packet_least ≤ length b) (most : length b ≤ packet_limit) {slot : ℕ} (at : slot ≡ slot_at l.base p) where
  inside : p < kept_numbers
  inside = rw (length-cells l.base l.table l.octets) at (unknown-inside (cells_of l.base l.table l.octets) p free)

  small : slot < slots_kept
  small = rw at (slot_small l.base p)

  -- what is lent, with the packet
  abbrev pub placed : Lent
  placed = lent l.base l.counts (kept_set l.table slot state (length b) note) (pasted l.octets slot b) l.messages

  pub placed-view : view_in placed ≡ filled_at (view_in l) p note (state_numbered state) b
  unfolding view_in
  placed-view =
      ap₂ (λ (cells : List Cell) (held : List Held). record { base = l.base; counts = counts_of l.counts; cells = cells; held = held })
      (placed-cells w.laid slot state note b small low most l.base p inside at)
      (placed-held l.table slot state (length b) note small l.base l.messages)

  free-view : unknown_at (view_in l).cells p ≡ true
  unfolding view_in
  free-view = free

  noted-view : note_right (state_numbered state) note (number_at (view_in l).base p) ≡ true
  unfolding view_in
  noted-view = noted

  pub placed-ranges : InRanges placed
  placed-ranges =
      record {
        laid = placed-laid w.laid slot state note b small low most (rw at (size_none w p inside free));
        sound = rw placed-view (filled-sound w.sound p free-view note (state_numbered state) fills noted-view b least most);
      }
