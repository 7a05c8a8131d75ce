-- The ranges slot by slot, and a packet that has joined: the history has gone on by one, and the ranges stay. Assumes nothing.
use Prim.Native.Nat.{ℕ, suc, ◌+◌, ◌%◌, ◌≤◌, ◌<◌}
use mathlib.Core.Path.{◌≡◌, sym, ap, ◌∙◌}
use mathlib.Core.Logic.{⊎_elim}
use mathlib.Core.Bool.{true}
use mathlib.Core.List.{List, [], ◌∷◌, ◌++◌}
use lib.ListN.{length, drop, length-set}
use lib.Seq.{get_or-set_same, get_or-set_other}
use lib.Dec.{leb}
use native.Mathlib.Omega.{arith}
use borrow.Author.Tests.{le-leb, le-ltb, lt-ltb, eqb-true, leb-true}
use Rattle.octets.proofs.Laws.{tab-ext, all_below-at, all_below-of, tab-shift, same_or_not, below_or_not, and_left, and_right, and_both}
use Rattle.datagram.specs.Sizes.{packet_least, packet_limit}
use Rattle.length.proofs.Laws.{within-true}
use Rattle.session_slots.specs.Store.{part, pasted, zeros, zeros_past, HasSlot}
use Rattle.session_slots.proofs.Laws.{zeros-fit, length-pasted, length-cleared, part-pasted, part-pasted-other, zeros_past-pasted}
use Rattle.session_slots.proofs.Laws.{zeros_past-other}
use Rattle.session_slots.proofs.Laws.{zeros_past-cleared}
use Rattle.session.specs.View.{numbers, session_limit}
use Rattle.sender.specs.Sending.{history_kept, newest_place}
use Rattle.sender.specs.Send.{packet_inside}
use Rattle.sender.specs.Sender.{history_slot, length_in, packet_in, history_in}
use Rattle.sender.specs.Ranges.{size_in_range, place_in_range, history_in_ranges}
use Rattle.sender.specs.Inner.Held.{Arrays, Within, Stored, sizes_kept, octets_kept}
use Rattle.sender.proofs.Slots.{slot_small, slot_apart, slot-number, place_of, place-slot, place-small, has-slot}

-- ---- packets inside the sizes
pub packet-fits : (packet : List ℕ) → packet_inside packet ≡ true → length packet ≤ packet_limit
packet-fits packet inside = (within-true packet_least packet_limit (length packet) inside).1

-- a length in range is a packet's
pub size-limit : (at size : ℕ) → size_in_range at size ≡ true → size ≤ packet_limit
unfolding size_in_range
size-limit at size e =
    ⊎_elim (λ early. let none : size ≡ 0 = eqb-true size 0 (rw (lt-ltb at history_kept early) at e) in omega arith)
    (λ late. leb-true size packet_limit (and_right (leb 1 size) _ (rw (le-ltb at history_kept late) at e)))
    (below_or_not at history_kept)

-- ---- the ranges, place by place and slot by slot
module _ {sent : ℕ} {sizes o : List ℕ} (within : Within sent sizes o) where
  pub sent-limit : leb sent session_limit ≡ true
  unfolding history_in_ranges
  sent-limit = and_left (leb sent session_limit) _ within.ranges

  place-right : (p : ℕ) → p < history_kept → place_in_range sent sizes o p ≡ true
  unfolding history_in_ranges
  place-right p small =
      all_below-at history_kept (place_in_range sent sizes o) (and_right (leb sent session_limit) _ within.ranges) p small

  pub place-size : (p : ℕ) → p < history_kept → size_in_range (sent + p) (length_in sizes (history_slot sent p)) ≡ true
  unfolding place_in_range
  place-size p small = and_left (size_in_range (sent + p) (length_in sizes (history_slot sent p))) _ (place-right p small)

  pub place-zeros : (p : ℕ) → p < history_kept → zeros_past o (history_slot sent p) (length_in sizes (history_slot sent p)) ≡ true
  unfolding place_in_range
  place-zeros p small = and_right (size_in_range (sent + p) (length_in sizes (history_slot sent p))) _ (place-right p small)

  pub stored_of : Stored sizes o
  stored_of =
      record {
        lengths =
            record {
              slots = within.arrays.slots;
              small = λ i low.
                  rw (place-slot sent i low) at
                  (size-limit (sent + place_of sent i) (length_in sizes (history_slot sent (place_of sent i)))
                  (place-size (place_of sent i) (place-small sent i)));
            };
        octets = within.arrays.octets;
        clean = λ i low. rw (place-slot sent i low) at (place-zeros (place_of sent i) (place-small sent i));
      }

-- ---- a packet joins
-- the slot of the packet now sent
abbrev slot : ℕ → ℕ
slot sent = sent % numbers % history_kept

-- the slot of the newest place
slot-last : (sent : ℕ) → history_slot (sent + 1) newest_place ≡ slot sent
slot-last sent =
    let zero-place : sent % numbers + 0 ≡ sent % numbers = omega arith in
    let wrap : history_slot (sent + 1) newest_place ≡ history_slot sent 0 = omega arith in
    wrap ∙ sym (slot-number sent 0) ∙ ap (λ (k : ℕ). k % history_kept) zero-place

slot-low : (sent : ℕ) → slot sent < history_kept
slot-low sent = omega arith

-- places go on by one
slot-on : (sent p : ℕ) → history_slot (sent + 1) p ≡ history_slot sent (suc p)
slot-on sent p = omega arith

slot-other : (sent p : ℕ) → p < newest_place → history_slot sent (suc p) ≡ slot sent → ⊥
slot-other sent p low same =
    let e : p ≡ newest_place = slot_apart (sent + 1) p newest_place (omega arith) (omega arith)
    (slot-on sent p ∙ same ∙ sym (slot-last sent)) in
    omega arith

-- the sizes and the store after it
abbrev pub sizes_on : ℕ → List ℕ → List ℕ → List ℕ
sizes_on sent packet sizes = sizes_kept (sent % numbers) packet sizes

abbrev pub octets_on : ℕ → List ℕ → List ℕ → List ℕ
octets_on sent packet o = octets_kept (sent % numbers) packet o

abbrev cleared : ℕ → List ℕ → List ℕ
cleared sent o = pasted o (slot sent) (zeros packet_limit)

module _ {sent : ℕ} {sizes o : List ℕ} (within : Within sent sizes o) (packet : List ℕ) (inside : packet_inside packet ≡ true) where
  has : HasSlot (slot sent) o
  has = has-slot o (slot sent) within.arrays.octets (slot-low sent)

  has-cleared : HasSlot (slot sent) (cleared sent o)
  has-cleared = rw (length-cleared o (slot sent) has) has

  fits : length packet ≤ packet_limit
  fits = packet-fits packet inside

  pub arrays-kept : Arrays (sizes_on sent packet sizes) (octets_on sent packet o)
  arrays-kept =
      record {
        slots = length-set sizes (slot sent) (length packet) ∙ within.arrays.slots;
        octets = length-pasted (cleared sent o) (slot sent) packet has-cleared fits ∙ length-cleared o (slot sent) has
            ∙ within.arrays.octets;
      }

  -- the newest
  size-new : length_in (sizes_on sent packet sizes) (slot sent) ≡ length packet
  size-new = get_or-set_same sizes (slot sent) (length packet) 0 (let long = within.arrays.slots in let low = slot-low sent in omega arith)

  packet-new : packet_in (sizes_on sent packet sizes) (octets_on sent packet o) (slot sent) ≡ packet
  packet-new = ap (part (octets_on sent packet o) (slot sent)) size-new ∙ part-pasted (cleared sent o) (slot sent) packet has-cleared fits

  zeros-new : zeros_past (octets_on sent packet o) (slot sent) (length packet) ≡ true
  zeros-new = zeros_past-pasted (cleared sent o) (slot sent) packet has-cleared fits (zeros_past-cleared o (slot sent) has 0)

  -- the others
  size-other : (i : ℕ) → (i ≡ slot sent → ⊥) → length_in (sizes_on sent packet sizes) i ≡ length_in sizes i
  size-other i other = get_or-set_other sizes (slot sent) i (length packet) 0 other

  zeros-other : (i n : ℕ) → (i ≡ slot sent → ⊥) → zeros_past (octets_on sent packet o) i n ≡ zeros_past o i n
  zeros-other i n other =
      zeros_past-other (cleared sent o) (slot sent) packet has-cleared fits i n other
      ∙ zeros_past-other o (slot sent) (zeros packet_limit) has zeros-fit i n other

  part-other : (i n : ℕ) → i < history_kept → n ≤ packet_limit → (i ≡ slot sent → ⊥) → part (octets_on sent packet o) i n ≡ part o i n
  part-other i n low small other =
      let there : HasSlot i o = has-slot o i within.arrays.octets low in
      part-pasted-other (cleared sent o) (slot sent) packet has-cleared fits i n (rw (length-cleared o (slot sent) has) there) small other
      ∙ part-pasted-other o (slot sent) (zeros packet_limit) has zeros-fit i n there small other

  packet-other : (p : ℕ) → p < newest_place → packet_in (sizes_on sent packet sizes) (octets_on sent packet o)
      (history_slot (sent + 1) p) ≡ packet_in sizes o (history_slot sent (suc p))
  packet-other p low =
      let i = history_slot sent (suc p) in
      ap (packet_in (sizes_on sent packet sizes) (octets_on sent packet o)) (slot-on sent p)
      ∙ ap (part (octets_on sent packet o) i) (size-other i (slot-other sent p low))
      ∙ part-other i (length_in sizes i) (slot_small sent (suc p))
      (size-limit (sent + suc p) (length_in sizes i) (place-size within (suc p) (omega arith)))
      (slot-other sent p low)

  -- ---- the history has gone on by one
  pub history-kept : history_in (sent + 1) (sizes_on sent packet sizes) (octets_on sent packet o) ≡ drop 1 (history_in sent sizes o) ++
      (packet ∷ [])
  unfolding history_in
  history-kept =
      tab-shift newest_place _ (λ p. packet_in sizes o (history_slot sent p)) packet packet-other
      (ap (packet_in (sizes_on sent packet sizes) (octets_on sent packet o)) (slot-last sent) ∙ packet-new)

  -- ---- the ranges stay
  right_new : place_in_range (sent + 1) (sizes_on sent packet sizes) (octets_on sent packet o) newest_place ≡ true
  unfolding place_in_range size_in_range
  right_new =
      rw (slot-last sent, size-new, le-ltb (sent + 1 + newest_place) history_kept (omega arith)) (and_both inside zeros-new)

  right-other : (p : ℕ) → p < newest_place → place_in_range (sent + 1) (sizes_on sent packet sizes) (octets_on sent packet o) p ≡ true
  unfolding place_in_range
  right-other p low =
      let i = history_slot sent (suc p) in
      let same : sent + 1 + p ≡ sent + suc p = omega arith in
      rw (slot-on sent p, size-other i (slot-other sent p low), zeros-other i (length_in sizes i) (slot-other sent p low), same)
      (and_both (place-size within (suc p) (omega arith)) (place-zeros within (suc p) (omega arith)))

  pub ranges-kept : sent < session_limit → history_in_ranges (sent + 1) (sizes_on sent packet sizes) (octets_on sent packet o) ≡ true
  unfolding history_in_ranges
  ranges-kept free =
      and_both (le-leb (sent + 1) session_limit (omega arith))
      (all_below-of history_kept (place_in_range (sent + 1) (sizes_on sent packet sizes) (octets_on sent packet o))
      (λ p small.
      ⊎_elim (λ newest. rw newest right_new) (λ older. right-other p (omega arith)) (same_or_not p newest_place)))
