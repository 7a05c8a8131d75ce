-- What the view shows at a place is what stands in the slot of that place; and what the ranges of the view say of that slot.
-- Assumes nothing.
use Prim.Native.Nat.{ℕ, ◌+◌, ◌*◌, ◌≤◌, ◌<◌}
use mathlib.Core.Path.{◌≡◌, sym, ap, ap₂, ◌∙◌}
use mathlib.Core.Bool.{true}
use mathlib.Core.List.{List, []}
use lib.ListN.{length, get_or, take, drop}
use Rattle.octets.proofs.Laws.{tab-at, length-tab}
use Rattle.datagram.specs.Sizes.{packet_limit, covered_limit}
use Rattle.session.specs.Cells.{State, Cell, filled_cell, cell_at, unknown_at, is_unknown, kept_before, kept_ahead, kept_numbers}
use Rattle.session.specs.Held.{Held, held_at}
use Rattle.session_slots.specs.Store.{part}
use Rattle.session_slots.proofs.Laws.{part-octet, length_part}
use Rattle.session.specs.View.{sum}
use Rattle.session.specs.Ranges.{blank_at, cell_right, held_right, known_at}
use Rattle.session.proofs.Laws.{unknown-size, held-sizes}
use Rattle.session_held.specs.Slots.{slot_at, heard_slot_at, slots_kept, slots_heard}
use Rattle.session_held.specs.Table.{Lent, counts_of, state_in, size_in, n_in, state_numbered, cell_in, held_in, cells_of, held_of, view_in}
use Rattle.session_held.specs.Laid.{Laid, InRanges}
use Rattle.session_held.proofs.Slots.{slot_small, heard-slot-of, has-packet-slot}

-- a kept number by its parts
pub cell_parts : {s r : State} {o q : List ℕ} {n m : ℕ} → s ≡ r → o ≡ q → n ≡ m → filled_cell n s o ≡ filled_cell m r q
cell_parts {s} {r} {o} {q} {n} {m} state octets note =
    ap₂ (λ (x : State) (y : List ℕ). filled_cell n x y) state octets ∙ ap (λ (x : ℕ). filled_cell x r q) note

pub length-cells : (base : ℕ) (t o : List ℕ) → length (cells_of base t o) ≡ kept_numbers
unfolding cells_of
length-cells base t o = length-tab kept_numbers _

pub length-held : (base : ℕ) (t g : List ℕ) → length (held_of base t g) ≡ kept_ahead
unfolding held_of
length-held base t g = length-tab kept_ahead _

pub cell-at : (base : ℕ) (t o : List ℕ) (p : ℕ) → p < kept_numbers → cell_at (cells_of base t o) p ≡ cell_in t o (slot_at base p)
unfolding cells_of
cell-at base t o p below = tab-at kept_numbers _ p _ below

pub held-at : (base : ℕ) (t g : List ℕ) (d : ℕ) → d < kept_ahead → held_at (held_of base t g) d ≡ held_in t g (heard_slot_at base d)
unfolding held_of
held-at base t g d below = tab-at kept_ahead _ d _ below

pub unknown-at : (base : ℕ) (t o : List ℕ) (p : ℕ) → p < kept_numbers
    → unknown_at (cells_of base t o) p ≡ is_unknown (state_numbered (state_in t (slot_at base p)))
unfolding cell_in
unknown-at base t o p below = ap (λ (c : Cell). is_unknown c.state) (cell-at base t o p below)

-- ---- of what is laid
module _ {t o g : List ℕ} (laid : Laid t o g) where
  -- the octets of a slot are as many as its size
  pub octets-long : (i : ℕ) → i < slots_kept → length (cell_in t o i).octets ≡ size_in t i
  unfolding cell_in
  octets-long i small = length_part o i (size_in t i) (has-packet-slot o i laid.octets small) (laid.size i small)

  -- an octet of the cell is the octet of the slot, past the length too
  pub octet-at : (i : ℕ) → i < slots_kept → (j : ℕ) → j < packet_limit → get_or (cell_in t o i).octets j 0 ≡ get_or o (i * packet_limit + j) 0
  unfolding cell_in
  octet-at i small j low =
      part-octet o i (size_in t i) j (has-packet-slot o i laid.octets small) (laid.size i small) (laid.packet i small) low

-- ---- of what is within the ranges
module _ {l : Lent} (w : InRanges l) where
  pub cell-right : (p : ℕ) → p < kept_numbers
      → cell_right (cell_in l.table l.octets (slot_at l.base p)) (blank_at (sum (counts_of l.counts)) p) ≡ true
  unfolding view_in
  cell-right p below =
      ap (λ (c : Cell). cell_right c (blank_at (sum (counts_of l.counts)) p)) (sym (cell-at l.base l.table l.octets p below))
      ∙ w.sound.cell p below

  pub held-right : (d : ℕ) → d < kept_ahead
      → held_right (held_in l.table l.messages (heard_slot_at l.base d)) (known_at (view_in l) (kept_before + d)) ≡ true
  unfolding view_in
  held-right d below =
      ap (λ (h : Held). held_right h (known_at (view_in l) (kept_before + d))) (sym (held-at l.base l.table l.messages d below))
      ∙ w.sound.held d below

  -- an unknown number has no octets
  pub size_none : (p : ℕ) → p < kept_numbers → unknown_at (cells_of l.base l.table l.octets) p ≡ true
      → size_in l.table (slot_at l.base p) ≡ 0
  unfolding cell_in
  size_none p below e =
      sym (octets-long w.laid (slot_at l.base p) (slot_small l.base p))
      ∙ (unknown-size _ _ _ (sym (unknown-at l.base l.table l.octets p below) ∙ e) (cell-right p below)).0

  pub unknown-empty : (p : ℕ) → p < kept_numbers → unknown_at (cells_of l.base l.table l.octets) p ≡ true
      → (cell_at (cells_of l.base l.table l.octets) p).octets ≡ []
  unfolding cell_in part
  unknown-empty p below e =
      ap (λ (c : Cell). c.octets) (cell-at l.base l.table l.octets p below)
      ∙ ap (λ (n : ℕ). take n (drop (slot_at l.base p * packet_limit) l.octets)) (size_none p below e)

  -- n of every slot is within the sizes
  n-near : (d : ℕ) → d < kept_ahead → n_in l.table (heard_slot_at l.base d) ≤ covered_limit
  unfolding held_in
  n-near d below = (held-sizes _ _ (held-right d below)).0

  pub n-small : (j : ℕ) → j < slots_heard → n_in l.table j ≤ covered_limit
  n-small j small =
      let d = heard-slot-of l.base j small in
      rw d.2 at (n-near d.0 d.1)
