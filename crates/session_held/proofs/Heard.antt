-- A number marked as accepted, with its n and messages: the table takes mark, n, m and the sizes of the messages, the store their
-- octets. In the view what is held at one distance is set, the cells stay, and all stays within the ranges. The number had no
-- messages before, so that its message slots hold zeros alone; every other slot is left alone. Assumes nothing.
use Prim.Native.Nat.{ℕ, ◌+◌, ◌≤◌, ◌<◌}
use mathlib.Core.Path.{◌≡◌, sym, ap, ap₂, ◌∙◌}
use mathlib.Core.Bool.{Bool, true, false, not}
use mathlib.Core.List.{List, []}
use mathlib.Core.Logic.{⊎_elim}
use lib.ListN.{length, get_or, set}
use native.Mathlib.Omega.{arith}
use Rattle.octets.proofs.Laws.{same_or_not, below_or_not, tab-set, tab-ext, tab-at, length-tab}
use Rattle.octets.specs.Place.{tab}
use Rattle.datagram.specs.Sizes.{packet_limit, message_limit, messages_limit}
use Rattle.session.specs.Cells.{Cell, kept_before, kept_ahead, kept_numbers}
use Rattle.session.specs.Held.{Held, held_at}
use Rattle.session.specs.Reached.{Known}
use Rattle.session_slots.specs.Store.{part, zeros_past}
use Rattle.session.specs.Ranges.{mark_right, held_right, known_at}
use Rattle.session.proofs.Laws.{mark-sizes, held_there, held_none, accepted-right, held-sound}
use Rattle.session_held.specs.Slots.{slot_at, heard_slot_at, message_slot, Apart, slots_kept, slots_heard}
use Rattle.session_held.specs.Table.{Lent, lent, counts_of, state_place, size_place, note_place, mark_place, n_place, m_place, message_place}
use Rattle.session_held.specs.Table.{mark_in, n_in, m_in, message_size_in, state_numbered, cell_in, message_in, held_in, cells_of, held_of}
use Rattle.session_held.specs.Table.{view_in}
use Rattle.session_held.specs.Table.{heard_set}
use Rattle.session_held.specs.Laid.{Laid, InRanges}
use Rattle.session_held.specs.Heard.{NoSize, SizesLaid, OctetsLaid}
use Rattle.session_held.proofs.Marked.{long-heard, mark_set, n-set, m-set, heard-elsewhere}
use Rattle.session_held.proofs.Seen.{cell_parts, held-at, held-right}
use Rattle.session_held.proofs.Slots.{slot_small, heard-small, message-small, heard-apart, message-apart, has-message-slot}

module _ {t o g : List ℕ} (laid : Laid t o g) {j m : ℕ} (n : ℕ) {messages : ℕ → List ℕ} (small : j < slots_heard)
    (few : m ≤ messages_limit) {new_t new_g : List ℕ} (sizes : SizesLaid j m messages (heard_set t j 1 n m) new_t)
    (octets : OctetsLaid j m messages g new_g) where
  -- ---- the table: every place that stays
  stays : (k : ℕ) → (k ≡ mark_place j → ⊥) → (k ≡ n_place j → ⊥) → (k ≡ m_place j → ⊥) → NoSize j m k → get_or new_t k 0 ≡ get_or t k 0
  stays k no-mark no-n no-m no_size = sizes.other k no_size ∙ heard-elsewhere t j 1 n m k no-mark no-n no-m

  kept-stays : (k : ℕ) → k < slots_kept + slots_kept + slots_kept → get_or new_t k 0 ≡ get_or t k 0
  kept-stays k low = stays k (λ e. omega arith) (λ e. omega arith) (λ e. omega arith) (λ i below e. omega arith)

  mark-other : (e : ℕ) → e < slots_heard → (e ≡ j → ⊥) → mark_in new_t e ≡ mark_in t e
  mark-other e low other =
      stays (mark_place e) (λ x. other (omega arith)) (λ x. omega arith) (λ x. omega arith) (λ i below x. omega arith)

  n-other : (e : ℕ) → e < slots_heard → (e ≡ j → ⊥) → n_in new_t e ≡ n_in t e
  n-other e low other = stays (n_place e) (λ x. omega arith) (λ x. other (omega arith)) (λ x. omega arith) (λ i below x. omega arith)

  m-other : (e : ℕ) → e < slots_heard → (e ≡ j → ⊥) → m_in new_t e ≡ m_in t e
  m-other e low other = stays (m_place e) (λ x. omega arith) (λ x. omega arith) (λ x. other (omega arith)) (λ i below x. omega arith)

  -- another number's message is none of those that were laid, nor is a place past them
  apart : (e i : ℕ) → i < messages_limit → (e ≡ j → ⊥) → Apart j m (message_slot e i)
  apart e i low other k below same = other (message-apart e i j k low (omega arith) same).0

  apart-past : (i : ℕ) → i < messages_limit → m ≤ i → Apart j m (message_slot j i)
  apart-past i low past k below same = omega (arith, (message-apart j i j k low (omega arith) same).1)

  size-apart : (k : ℕ) → Apart j m k → message_size_in new_t k ≡ message_size_in t k
  size-apart k away =
      stays (message_place k) (λ x. omega arith) (λ x. omega arith) (λ x. omega arith) (λ i below x. away i below (omega arith))

  -- ---- and those of the number
  mark-here : mark_in new_t j ≡ 1
  mark-here = sizes.other (mark_place j) (λ i below e. omega arith) ∙ mark_set t j 1 n m small laid.long

  n-here : n_in new_t j ≡ n
  n-here = sizes.other (n_place j) (λ i below e. omega arith) ∙ n-set t j 1 n m small laid.long

  m-here : m_in new_t j ≡ m
  m-here = sizes.other (m_place j) (λ i below e. omega arith) ∙ m-set t j 1 n m small laid.long

  size-here : (i : ℕ) → i < m → message_size_in new_t (message_slot j i) ≡ length (messages i)
  size-here i below = sizes.here i below (omega (arith, long-heard t j 1 n m laid.long))

  -- ---- how it is laid: the number had no messages, so its message slots hold zeros alone
  module _ (fits : (i : ℕ) → i < m → length (messages i) ≤ message_limit) (none : m_in t j ≡ 0) where
    size_none : (i : ℕ) → i < messages_limit → message_size_in t (message_slot j i) ≡ 0
    size_none i low = laid.past j i small low (omega arith)

    clean : (i : ℕ) → i < messages_limit → zeros_past g (message_slot j i) 0 ≡ true
    clean i low = ap (λ (size : ℕ). zeros_past g (message_slot j i) size) (sym (size_none i low)) ∙ laid.message j i small low

    size-past : (i : ℕ) → i < messages_limit → m ≤ i → message_size_in new_t (message_slot j i) ≡ 0
    size-past i low past = size-apart (message_slot j i) (apart-past i low past) ∙ size_none i low

    part-here : (i : ℕ) → i < messages_limit → message_size_in new_t (message_slot j i) ≤ packet_limit
    part-here i low =
        ⊎_elim (λ below. rw (size-here i below) (fits i below)) (λ past. omega (arith, size-past i low past)) (below_or_not i m)

    message-here : (i : ℕ) → i < messages_limit → zeros_past new_g (message_slot j i) (message_size_in new_t (message_slot j i)) ≡ true
    message-here i low =
        ⊎_elim
        (λ below. ap (λ (size : ℕ). zeros_past new_g (message_slot j i) size) (size-here i below) ∙ octets.past i below (clean i low))
        (λ past.
        ap (λ (size : ℕ). zeros_past new_g (message_slot j i) size) (size-past i low past)
        ∙ octets.zeros (message_slot j i) 0 (apart-past i low past)
        ∙ clean i low)
        (below_or_not i m)

    message-other : (e i : ℕ) → e < slots_heard → i < messages_limit → (e ≡ j → ⊥)
        → zeros_past new_g (message_slot e i) (message_size_in new_t (message_slot e i)) ≡ true
    message-other e i low less other =
        ap (λ (size : ℕ). zeros_past new_g (message_slot e i) size) (size-apart (message_slot e i) (apart e i less other))
        ∙ octets.zeros (message_slot e i) (message_size_in t (message_slot e i)) (apart e i less other)
        ∙ laid.message e i low less

    pub heard-laid : Laid new_t o new_g
    heard-laid =
        record {
          long = sizes.long ∙ long-heard t j 1 n m laid.long;
          octets = laid.octets;
          messages = octets.long ∙ laid.messages;
          state = λ i low. rw (kept-stays (state_place i) (omega arith)) (laid.state i low);
          size = λ i low. rw (kept-stays (size_place i) (omega arith)) (laid.size i low);
          packet = λ i low. rw (kept-stays (size_place i) (omega arith)) (laid.packet i low);
          mark = λ e low.
              ⊎_elim (λ (same : e ≡ j). rw same (omega (arith, mark-here))) (λ other. rw (mark-other e low other) (laid.mark e low))
              (same_or_not e j);
          few = λ e low.
              ⊎_elim (λ (same : e ≡ j). rw same (omega (arith, m-here))) (λ other. rw (m-other e low other) (laid.few e low))
              (same_or_not e j);
          part = λ e i low less.
              ⊎_elim (λ (same : e ≡ j). rw same (part-here i less))
              (λ other. rw (size-apart (message_slot e i) (apart e i less other)) (laid.part e i low less))
              (same_or_not e j);
          past = λ e i low less over.
              ⊎_elim (λ (same : e ≡ j). rw same (size-past i less (rw (same, m-here) at over)))
              (λ other.
              size-apart (message_slot e i) (apart e i less other)
              ∙ laid.past e i low less (rw (m-other e low other) at over))
              (same_or_not e j);
          message = λ e i low less.
              ⊎_elim (λ (same : e ≡ j). rw same (message-here i less)) (λ other. message-other e i low less other) (same_or_not e j);
        }

  -- ---- what is held, and the cells
  heard-here : held_in new_t new_g j ≡ record { accepted = true; n = n; messages = tab m messages }
  unfolding held_in message_in
  heard-here =
      rw (
        mark-here,
        n-here,
        m-here,
        tab-ext m (message_in new_t new_g j) messages
            (λ i below. ap (λ (size : ℕ). part new_g (message_slot j i) size) (size-here i below) ∙ octets.here i below),
      )

  message-stays : (e i : ℕ) → e < slots_heard → i < messages_limit → (e ≡ j → ⊥) → message_in new_t new_g e i ≡ message_in t g e i
  unfolding message_in
  message-stays e i low less other =
      ap (λ (size : ℕ). part new_g (message_slot e i) size) (size-apart (message_slot e i) (apart e i less other))
      ∙ octets.parts (message_slot e i) (message_size_in t (message_slot e i))
      (has-message-slot g (message_slot e i) laid.messages (message-small e i low less)) (laid.part e i low less) (apart e i less other)

  heard-other : (e : ℕ) → e < slots_heard → (e ≡ j → ⊥) → held_in new_t new_g e ≡ held_in t g e
  unfolding held_in
  heard-other e low other =
      rw (
        mark-other e low other,
        n-other e low other,
        m-other e low other,
        tab-ext (m_in t e) (message_in new_t new_g e) (message_in t g e)
            (λ i below. message-stays e i low (omega (arith, laid.few e low)) other),
      )

  cell_stays : (i : ℕ) → i < slots_kept → cell_in new_t o i ≡ cell_in t o i
  unfolding cell_in
  cell_stays i low =
      cell_parts (ap state_numbered (kept-stays (state_place i) (omega arith)))
      (ap (part o i) (kept-stays (size_place i) (omega arith)))
      (kept-stays (note_place i) (omega arith))

  pub heard-cells : (base : ℕ) → cells_of base new_t o ≡ cells_of base t o
  unfolding cells_of
  heard-cells base =
      tab-ext kept_numbers _ (λ p. cell_in t o (slot_at base p)) (λ p below. cell_stays (slot_at base p) (slot_small base p))

  pub heard-held : (base d : ℕ) → d < kept_ahead → j ≡ heard_slot_at base d
      → held_of base new_t new_g ≡ set (held_of base t g) d (record { accepted = true; n = n; messages = tab m messages })
  unfolding held_of
  heard-held base d near e =
      tab-set kept_ahead _ (λ k. held_in t g (heard_slot_at base k)) d near
      (λ k below other. heard-other (heard_slot_at base k) (heard-small base k) (λ same. other (heard-apart base k d below near (same ∙ e))))
      ∙ ap (λ (h : Held). set (tab kept_ahead (λ k. held_in t g (heard_slot_at base k))) d h)
      (ap (λ (i : ℕ). held_in new_t new_g i) (sym e) ∙ heard-here)

-- ---- all together, at distance d from the base
module _ {l : Lent} (w : InRanges l) {d : ℕ} (near : d < kept_ahead)
    (known : Known (cells_of l.base l.table l.octets) (kept_before + d))
    (unmarked : (held_at (held_of l.base l.table l.messages) d).accepted ≡ false) (n : ℕ) {m : ℕ} {messages : ℕ → List ℕ}
    (settings : mark_right true true n m ≡ true) (fits : (i : ℕ) → i < m → length (messages i) ≤ message_limit) {j : ℕ}
    (at : j ≡ heard_slot_at l.base d) {new_t new_g : List ℕ} (sizes : SizesLaid j m messages (heard_set l.table j 1 n m) new_t)
    (octets : OctetsLaid j m messages l.messages new_g) where
  small : j < slots_heard
  small = rw at (heard-small l.base d)

  few : m ≤ messages_limit
  few = (mark-sizes true true n m settings).1

  none : m_in l.table j ≡ 0
  unfolding held_in
  none =
      rw at
      (sym (length-tab (m_in l.table (heard_slot_at l.base d)) (message_in l.table l.messages (heard_slot_at l.base d)))
      ∙ held_none (held_in l.table l.messages (heard_slot_at l.base d)) _ (held-right w d near)
      (ap (λ (h : Held). h.accepted) (sym (held-at l.base l.table l.messages d near)) ∙ unmarked))

  -- what is held of the datagram
  abbrev pub heard : Held
  heard = record { accepted = true; n = n; messages = tab m messages }

  -- what is lent, with it
  abbrev pub heard_lent : Lent
  heard_lent = lent l.base l.counts new_t l.octets new_g

  pub heard-view : view_in heard_lent ≡ held_there (view_in l) d heard
  unfolding view_in
  heard-view =
      ap₂ (λ (cells : List Cell) (held : List Held). record { base = l.base; counts = counts_of l.counts; cells = cells; held = held })
      (heard-cells w.laid n small few sizes octets l.base)
      (heard-held w.laid n small few sizes octets l.base d near at)

  right : held_right heard (known_at (view_in l) (kept_before + d)) ≡ true
  unfolding view_in
  right =
      ap (λ (b : Bool). held_right heard (not b)) known
      ∙ accepted-right n (tab m messages) (rw (length-tab m messages) settings)
      (λ i below.
      let low : i < m = omega (arith, length-tab m messages) in
      rw (tab-at m messages i [] low) (fits i low))

  pub heard-ranges : InRanges heard_lent
  heard-ranges =
      record {
        laid = heard-laid w.laid n small few sizes octets fits none;
        sound = rw heard-view (held-sound w.sound d near heard right);
      }
