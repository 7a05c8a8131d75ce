-- Where the memory of a session has octets, so have the numbers and messages of its view. Assumes nothing.
use Rattle.std.proofs.Common.{◌≡◌, ℕ, ◌+◌, ◌*◌, ◌<◌, ◌≤◌, min, List, [], length, get_or, take, drop, sym, ap, ◌∙◌, subst, ⊎_elim, arith, length-take}
use mathlib.Core.List.{Memᴰ as Among}
use lib.ListN.{get_or-eq_default}
use Rattle.octets.specs.Place.{tab}
use Rattle.octets.proofs.Laws.{tab-at, length-tab, below_or_not}
use Rattle.length.specs.Claims.{Octets}
use Rattle.datagram.specs.Sizes.{packet_limit}
use Rattle.session.specs.Cells.{Cell, blank_cell, cell_at, kept_before, kept_ahead, kept_numbers}
use Rattle.session.specs.Held.{Held, held_at, message_at, held_messages}
use Rattle.session.specs.Repair.{Message}
use Rattle.session.proofs.Laws as session
use Rattle.session_slots.specs.Store.{part}
use Rattle.session_slots.proofs.Laws.{part_at}
use Rattle.session_held.specs.Slots.{slot_at, heard_slot_at, message_slot}
use Rattle.session_held.specs.Table.{cell_in, cells_of, held_in, held_of, message_in, m_in}
use Rattle.session_held.proofs.Laws.{length-cells, length-held, cell-at, held-at}
use Rattle.solve.specs.Equations.{OfOctets}

part-short : (o : List ℕ) (i n k : ℕ) → n ≤ k → length (part o i n) ≤ k
unfolding part
part-short o i n k past = rw (length-take n (drop (i * packet_limit) o)) (omega arith)

zero-octet : (l : List ℕ) (k : ℕ) → length l ≤ k → get_or l k 0 < 256
zero-octet l k past = subst (λ (x : ℕ). x < 256) (sym (get_or-eq_default l 0 {n = k} past)) (omega arith)

part-octets : (o : List ℕ) (i n : ℕ) → Octets o → Octets (part o i n)
part-octets o i n small k =
    ⊎_elim (λ low. subst (λ (x : ℕ). x < 256) (sym (part_at o i n k low)) (small (i * packet_limit + k)))
    (λ past. zero-octet (part o i n) k (part-short o i n k past))
    (below_or_not k n)

module _ (base : ℕ) (t o g : List ℕ) where
  cell-octets : Octets o → (p : ℕ) → Octets (cell_at (cells_of base t o) p).octets
  unfolding cell_in
  cell-octets small p =
      ⊎_elim (λ inside. subst (λ (c : Cell). Octets c.octets) (sym (cell-at base t o p inside)) (part-octets o (slot_at base p) _ small))
      (λ past.
      subst (λ (c : Cell). Octets c.octets)
      (sym (get_or-eq_default (cells_of base t o) blank_cell {n = p} (rw (length-cells base t o) past)))
      (λ k. zero-octet [] k (omega arith)))
      (below_or_not p kept_numbers)

  held-octets : Octets g → (d i : ℕ) → d < kept_ahead → i < length (held_at (held_of base t g) d).messages
      → Octets (get_or (held_at (held_of base t g) d).messages i [])
  unfolding held_in message_in
  held-octets small d i near low =
      let j = heard_slot_at base d in
      let is : (held_at (held_of base t g) d).messages ≡ tab (m_in t j) (message_in t g j) =
      ap (λ (h : Held). h.messages) (held-at base t g d near) in
      let inside : i < m_in t j = rw (is, length-tab (m_in t j) (message_in t g j)) at low in
      subst Octets (sym (ap (λ (l : List (List ℕ)). get_or l i []) is ∙ tab-at (m_in t j) (message_in t g j) i [] inside))
      (part-octets g (message_slot j i) _ small)

  pub view-octets : Octets o → Octets g → OfOctets (cells_of base t o) (held_messages (held_of base t g))
  unfolding held_messages
  view-octets packets messages =
      record {
        numbers = cell-octets packets;
        held = λ message m.
            let at = session.held-at kept_before (held_of base t g) message m in
            subst (λ (x : Message). Octets x.octets) (sym at.same)
            (held-octets messages at.j at.i (rw (length-held base t g) at at.inside) at.low);
      }
