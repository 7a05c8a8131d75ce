-- The table after the base went on by one: what stands in each slot. Assumes nothing.
use Rattle.std.proofs.Common.{◌≡◌, ℕ, ◌+◌, ◌*◌, ◌<◌, ◌≤◌, List, length, get_or, ◌∙◌, arith}
use Rattle.datagram.specs.Sizes.{messages_limit}
use Rattle.session_held.specs.Slots.{slot_at, heard_slot_at, message_slot, slots_kept, slots_heard}
use Rattle.session_held.specs.Table.{places, state_place, size_place, note_place, mark_place, n_place, m_place, message_place, state_in, size_in}
use Rattle.session_held.specs.Table.{note_in}
use Rattle.session_held.specs.Table.{mark_in, n_in, m_in, message_size_in, kept_set, heard_dropped}
use Rattle.session_held.proofs.Laws.{long_kept, long-dropped, kept-zero, kept-elsewhere, dropped-stays, dropped, dropped-elsewhere}

-- the table t of a session whose base was b
abbrev pub advanced : ℕ → List ℕ → List ℕ
advanced b t = heard_dropped (kept_set t (slot_at b 0) 0 0 0) (heard_slot_at b 0)

module _ (b : ℕ) (t : List ℕ) where
  -- the places of kept numbers are none of those of a slot from the base on
  low : (k : ℕ) → k < mark_place 0 → get_or (advanced b t) k 0 ≡ get_or (kept_set t (slot_at b 0) 0 0 0) k 0
  low k small =
      dropped-elsewhere (kept_set t (slot_at b 0) 0 0 0) (heard_slot_at b 0) k (λ e. omega arith) (λ e. omega arith) (λ e. omega arith)
      (λ i below e. omega arith)

  pub state-other : (i : ℕ) → i < slots_kept → (i ≡ slot_at b 0 → ⊥) → state_in (advanced b t) i ≡ state_in t i
  state-other i small other =
      low (state_place i) (omega arith)
      ∙ kept-elsewhere t (slot_at b 0) 0 0 0 (state_place i) other (λ e. omega arith) (λ e. omega arith)

  pub size-other : (i : ℕ) → i < slots_kept → (i ≡ slot_at b 0 → ⊥) → size_in (advanced b t) i ≡ size_in t i
  size-other i small other =
      low (size_place i) (omega arith)
      ∙ kept-elsewhere t (slot_at b 0) 0 0 0 (size_place i) (λ e. omega arith) (λ e. other (omega arith)) (λ e. omega arith)

  pub note-other : (i : ℕ) → i < slots_kept → (i ≡ slot_at b 0 → ⊥) → note_in (advanced b t) i ≡ note_in t i
  note-other i small other =
      low (note_place i) (omega arith)
      ∙ kept-elsewhere t (slot_at b 0) 0 0 0 (note_place i) (λ e. omega arith) (λ e. omega arith) (λ e. other (omega arith))

  pub state-comes : state_in (advanced b t) (slot_at b 0) ≡ 0
  state-comes =
      dropped-stays (kept_set t (slot_at b 0) 0 0 0) (heard_slot_at b 0) (state_place (slot_at b 0)) (kept-zero t (slot_at b 0)).0

  pub size-comes : size_in (advanced b t) (slot_at b 0) ≡ 0
  size-comes =
      dropped-stays (kept_set t (slot_at b 0) 0 0 0) (heard_slot_at b 0) (size_place (slot_at b 0)) (kept-zero t (slot_at b 0)).1

  pub note-comes : note_in (advanced b t) (slot_at b 0) ≡ 0
  note-comes =
      dropped-stays (kept_set t (slot_at b 0) 0 0 0) (heard_slot_at b 0) (note_place (slot_at b 0)) (kept-zero t (slot_at b 0)).2

  -- a place after those of kept numbers
  high : (k : ℕ) → mark_place 0 ≤ k → get_or (kept_set t (slot_at b 0) 0 0 0) k 0 ≡ get_or t k 0
  high k big = kept-elsewhere t (slot_at b 0) 0 0 0 k (λ e. omega arith) (λ e. omega arith) (λ e. omega arith)

  other_place : (k : ℕ) → mark_place 0 ≤ k → (k ≡ mark_place (heard_slot_at b 0) → ⊥) → (k ≡ n_place (heard_slot_at b 0) → ⊥)
      → (k ≡ m_place (heard_slot_at b 0) → ⊥) → ((i : ℕ) → i < messages_limit → k ≡ message_place (heard_slot_at b 0 * messages_limit) + i → ⊥)
      → get_or (advanced b t) k 0 ≡ get_or t k 0
  other_place k big mark n m far =
      dropped-elsewhere (kept_set t (slot_at b 0) 0 0 0) (heard_slot_at b 0) k mark n m far ∙ high k big

  module _ (j : ℕ) (small : j < slots_heard) (other : j ≡ heard_slot_at b 0 → ⊥) where
    pub mark-other : mark_in (advanced b t) j ≡ mark_in t j
    mark-other =
        other_place (mark_place j) (omega arith) (λ e. other (omega arith)) (λ e. omega arith) (λ e. omega arith) (λ i below e. omega arith)

    pub n-other : n_in (advanced b t) j ≡ n_in t j
    n-other =
        other_place (n_place j) (omega arith) (λ e. omega arith) (λ e. other (omega arith)) (λ e. omega arith) (λ i below e. omega arith)

    pub m-other : m_in (advanced b t) j ≡ m_in t j
    m-other =
        other_place (m_place j) (omega arith) (λ e. omega arith) (λ e. omega arith) (λ e. other (omega arith)) (λ i below e. omega arith)

    pub sizes-other : (i : ℕ) → i < messages_limit → message_size_in (advanced b t) (message_slot j i) ≡ message_size_in t (message_slot j i)
    sizes-other i below =
        other_place (message_place (message_slot j i)) (omega arith) (λ e. omega arith) (λ e. omega arith) (λ e. omega arith)
        (λ k few e. other (omega arith))

  pub mark-gone : mark_in (advanced b t) (heard_slot_at b 0) ≡ 0
  mark-gone = (dropped (kept_set t (slot_at b 0) 0 0 0) (heard_slot_at b 0)).mark

  pub n-gone : n_in (advanced b t) (heard_slot_at b 0) ≡ 0
  n-gone = (dropped (kept_set t (slot_at b 0) 0 0 0) (heard_slot_at b 0)).n

  pub m-gone : m_in (advanced b t) (heard_slot_at b 0) ≡ 0
  m-gone = (dropped (kept_set t (slot_at b 0) 0 0 0) (heard_slot_at b 0)).m

  pub sizes-freed : (i : ℕ) → i < messages_limit → message_size_in (advanced b t) (message_slot (heard_slot_at b 0) i) ≡ 0
  sizes-freed i below = (dropped (kept_set t (slot_at b 0) 0 0 0) (heard_slot_at b 0)).sizes i below

  pub long_after : length t ≡ places → length (advanced b t) ≡ places
  long_after long = long-dropped (kept_set t (slot_at b 0) 0 0 0) (heard_slot_at b 0) (long_kept t (slot_at b 0) 0 0 0 long)
