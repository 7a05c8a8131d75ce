-- Laws of stores, for the layers that keep one: what stands in a slot after octets were laid there, and that every other
-- slot is as it was. Assumes nothing.
use Prim.Native.Nat.{ℕ, ◌+◌, ◌-◌, ◌*◌, ◌≤◌, ◌<◌}
use mathlib.Core.Path.{◌≡◌, sym, ap, ap₂, ◌∙◌}
use mathlib.Core.Bool.{true, ◌||◌}
use mathlib.Core.List.{List, ◌++◌}
use mathlib.Core.Logic.{⊎_elim}
use lib.ListN.{length, get_or, take, drop, replicate, length-replicate, get_or-replicate, length-drop, get_or-append, get_or-eq_default}
use lib.ListN.{length-append, replicate-append-replicate}
use lib.Seq.{drop_at, length-paste, length_paste_head, get_or-append-add, get_or-take, get_or-drop, length-take-le, ext_get_or}
use lib.Bits.{bit_xor}
use lib.Dec.{ltb, eqb}
use native.Mathlib.Omega.{arith}
use borrow.Author.Tests.{lt-ltb, le-ltb, eqb-true}
use Rattle.octets.proofs.Laws.{length-tab, tab-at, all_below-at, all_below-of, all_below-ext, below_or_not, or-true}
use Rattle.datagram.specs.Sizes.{packet_limit}
use Rattle.session_slots.specs.Store.{all_bits, pasted, zeros, zeros_past, mask_over, part, added, HasSlot}

-- ---- zeros
pub length-zeros : (n : ℕ) → length (zeros n) ≡ n
unfolding zeros
length-zeros n = length-replicate n 0

pub zeros-at : (n k : ℕ) → get_or (zeros n) k 0 ≡ 0
unfolding zeros
zeros-at n k =
    ⊎_elim (λ below. get_or-replicate n k 0 0 below)
    (λ past. get_or-eq_default (replicate n 0) 0 (rw (length-replicate {A = ℕ} n 0) past))
    (below_or_not k n)

-- a slot full of zeros fits a slot
pub zeros-fit : length (zeros packet_limit) ≤ packet_limit
zeros-fit = omega (arith, length-zeros packet_limit)

-- ---- the mask
pub length-mask : (limit : ℕ) → length (mask_over limit) ≡ limit + limit
unfolding mask_over
length-mask limit =
    length-append (zeros limit) (replicate limit all_bits)
    ∙ ap₂ (λ (a b : ℕ). a + b) (length-zeros limit) (length-replicate {A = ℕ} limit all_bits)

pub mask_low : (limit k : ℕ) → k < limit → get_or (mask_over limit) k 0 ≡ 0
unfolding mask_over
mask_low limit k below =
    get_or-append (zeros limit) (replicate limit all_bits) 0 k (rw (length-zeros limit) below) ∙ zeros-at limit k

pub mask-high : (limit k : ℕ) → k < limit → get_or (mask_over limit) (limit + k) 0 ≡ all_bits
unfolding mask_over
mask-high limit k below =
    ap (λ (n : ℕ). get_or (zeros limit ++ replicate limit all_bits) (n + k) 0) (sym (length-zeros limit))
    ∙ get_or-append-add (zeros limit) (replicate limit all_bits) k 0
    ∙ get_or-replicate limit k all_bits 0 below

-- how it is made: zeros over the first half
pub mask-made : (limit : ℕ) {run : List ℕ} → run ≡ zeros limit → run ++ drop limit (replicate (limit + limit) all_bits) ≡ mask_over limit
unfolding mask_over
mask-made limit {run} e =
    ap₂ (λ (a b : List ℕ). a ++ b) e
    (ap (drop limit) (sym (replicate-append-replicate limit limit all_bits))
    ∙ drop_at (replicate limit all_bits) (replicate limit all_bits) limit (length-replicate {A = ℕ} limit all_bits))

-- ---- the part of a slot
pub length_part : (o : List ℕ) (slot n : ℕ) → HasSlot slot o → n ≤ packet_limit → length (part o slot n) ≡ n
unfolding part
length_part o slot n has fits = length-take-le n (drop (slot * packet_limit) o) (simp length-drop (omega arith))

pub part_at : (o : List ℕ) (slot n j : ℕ) → j < n → get_or (part o slot n) j 0 ≡ get_or o (slot * packet_limit + j) 0
unfolding part
part_at o slot n j below = rw (get_or-take n (drop (slot * packet_limit) o) j 0 below, get_or-drop (slot * packet_limit) o j 0)

-- octets past a length are zero
pub zeros_past-at : (o : List ℕ) (slot n j : ℕ) → zeros_past o slot n ≡ true → n ≤ j → j < packet_limit → get_or o (slot * packet_limit + j) 0 ≡ 0
unfolding zeros_past
zeros_past-at o slot n j zeros past small =
    eqb-true (get_or o (slot * packet_limit + j) 0) 0
    (rw (le-ltb j n past) at
    (all_below-at packet_limit (λ k. ltb k n || eqb (get_or o (slot * packet_limit + k) 0) 0) zeros j small))

-- an octet of the part is the octet of the slot, past the length too
pub part-octet : (o : List ℕ) (slot n j : ℕ) → HasSlot slot o → n ≤ packet_limit → zeros_past o slot n ≡ true → j < packet_limit
    → get_or (part o slot n) j 0 ≡ get_or o (slot * packet_limit + j) 0
part-octet o slot n j has fits zeros small =
    ⊎_elim (λ low. part_at o slot n j low)
    (λ past.
    get_or-eq_default (part o slot n) 0 (rw (length_part o slot n has fits) past)
    ∙ sym (zeros_past-at o slot n j zeros past small))
    (below_or_not j n)

-- zeros alone are zeros past any length
pub zeros_past-zeros : (o : List ℕ) (slot n : ℕ) → ((k : ℕ) → get_or o k 0 ≡ 0) → zeros_past o slot n ≡ true
unfolding zeros_past
zeros_past-zeros o slot n all =
    all_below-of packet_limit _ (λ j small. rw (all (slot * packet_limit + j)) (or-true (ltb j n)))

-- ---- octets laid
pub length-pasted : (o : List ℕ) (i : ℕ) (b : List ℕ) → HasSlot i o → length b ≤ packet_limit → length (pasted o i b) ≡ length o
unfolding pasted
length-pasted o i b has fits = length-paste o (i * packet_limit) b (length b) (omega arith) (omega arith)

-- ---- octet by octet
module _ (o : List ℕ) (i : ℕ) (b : List ℕ) (has : HasSlot i o) (fits : length b ≤ packet_limit) where
  front : List ℕ
  front = take (i * packet_limit) o ++ take (length b) b

  long : length front ≡ i * packet_limit + length b
  unfolding front
  long = length_paste_head o (i * packet_limit) b (length b) (omega arith) (omega arith)

  long-take : length (take (i * packet_limit) o) ≡ i * packet_limit
  long-take = length-take-le (i * packet_limit) o (omega arith)

  pub pasted-in : (j : ℕ) → j < length b → get_or (pasted o i b) (i * packet_limit + j) 0 ≡ get_or b j 0
  unfolding pasted front
  pasted-in j below =
      get_or-append front (drop (i * packet_limit + length b) o) 0 (i * packet_limit + j) (rw long (omega arith))
      ∙ ap (λ (k : ℕ). get_or front (k + j) 0) (sym long-take)
      ∙ get_or-append-add (take (i * packet_limit) o) (take (length b) b) j 0
      ∙ get_or-take (length b) b j 0 below

  pub pasted_below : (k : ℕ) → k < i * packet_limit → get_or (pasted o i b) k 0 ≡ get_or o k 0
  unfolding pasted front
  pasted_below k below =
      get_or-append front (drop (i * packet_limit + length b) o) 0 k (rw long (omega arith))
      ∙ get_or-append (take (i * packet_limit) o) (take (length b) b) 0 k (rw long-take below)
      ∙ get_or-take (i * packet_limit) o k 0 below

  pub pasted-past : (k : ℕ) → i * packet_limit + length b ≤ k → get_or (pasted o i b) k 0 ≡ get_or o k 0
  unfolding pasted front
  pasted-past k past =
      let e : k ≡ length front + (k - (i * packet_limit + length b)) = omega (arith, long) in
      ap (λ (n : ℕ). get_or (front ++ drop (i * packet_limit + length b) o) n 0) e
      ∙ get_or-append-add front (drop (i * packet_limit + length b) o) (k - (i * packet_limit + length b)) 0
      ∙ get_or-drop (i * packet_limit + length b) o (k - (i * packet_limit + length b)) 0
      ∙ ap (λ (n : ℕ). get_or o n 0) {y = k} (omega arith)

  -- another slot
  pub pasted-other : (k j : ℕ) → (k ≡ i → ⊥) → j < packet_limit
      → get_or (pasted o i b) (k * packet_limit + j) 0 ≡ get_or o (k * packet_limit + j) 0
  pasted-other k j other small =
      ⊎_elim (λ below. pasted_below (k * packet_limit + j) (omega arith))
      (λ past.
      let far : i < k = omega arith in
      pasted-past (k * packet_limit + j) (omega arith))
      (below_or_not k i)

  -- ---- parts
  pub part-pasted : part (pasted o i b) i (length b) ≡ b
  part-pasted =
      let slot : HasSlot i (pasted o i b) = rw (length-pasted o i b has fits) has in
      let e = length_part (pasted o i b) i (length b) slot fits in
      ext_get_or 0 (part (pasted o i b) i (length b)) b e
      (λ j below.
      let small : j < length b = rw e at below in
      part_at (pasted o i b) i (length b) j small ∙ pasted-in j small)

  pub part-pasted-other : (k n : ℕ) → HasSlot k o → n ≤ packet_limit → (k ≡ i → ⊥) → part (pasted o i b) k n ≡ part o k n
  part-pasted-other k n slot small other =
      let there : HasSlot k (pasted o i b) = rw (length-pasted o i b has fits) slot in
      let e = length_part (pasted o i b) k n there small in
      ext_get_or 0 (part (pasted o i b) k n) (part o k n) (e ∙ sym (length_part o k n slot small))
      (λ j below.
      let low : j < n = rw e at below in
      part_at (pasted o i b) k n j low ∙ pasted-other k j other (omega arith) ∙ sym (part_at o k n j low))

  -- ---- zeros past a length
  pub zeros_past-pasted : zeros_past o i 0 ≡ true → zeros_past (pasted o i b) i (length b) ≡ true
  unfolding zeros_past
  zeros_past-pasted clean =
      all_below-of packet_limit _
      (λ j small.
      ⊎_elim (λ below. rw (lt-ltb j (length b) below))
      (λ past.
      rw (
        le-ltb j (length b) past,
        pasted-past (i * packet_limit + j) (omega arith),
      )
      (rw (le-ltb j 0 (omega arith)) at
      (all_below-at packet_limit (λ k. ltb k 0 || eqb (get_or o (i * packet_limit + k) 0) 0) clean j small)))
      (below_or_not j (length b)))

  pub zeros_past-other : (k n : ℕ) → (k ≡ i → ⊥) → zeros_past (pasted o i b) k n ≡ zeros_past o k n
  unfolding zeros_past
  zeros_past-other k n other =
      all_below-ext packet_limit _ _
      (λ j small. ap (λ (x : ℕ). ltb j n || eqb x 0) (pasted-other k j other small))

-- ---- clearing
module _ (o : List ℕ) (i : ℕ) (has : HasSlot i o) where
  pub length-cleared : length (pasted o i (zeros packet_limit)) ≡ length o
  length-cleared = length-pasted o i (zeros packet_limit) has zeros-fit

  pub zeros_past-cleared : (n : ℕ) → zeros_past (pasted o i (zeros packet_limit)) i n ≡ true
  unfolding zeros_past
  zeros_past-cleared n =
      all_below-of packet_limit _
      (λ j small.
      rw (
        pasted-in o i (zeros packet_limit) has zeros-fit j (rw (length-zeros packet_limit) small),
        zeros-at packet_limit j,
      )
      (or-true (ltb j n)))

-- ---- adding a slot
pub length-added : (sum o : List ℕ) (slot : ℕ) → length (added sum o slot) ≡ length sum
unfolding added
length-added sum o slot = length-tab (length sum) _

pub added-at : (sum o : List ℕ) (slot j : ℕ) → j < length sum
    → get_or (added sum o slot) j 0 ≡ bit_xor (get_or sum j 0) (get_or o (slot * packet_limit + j) 0)
unfolding added
added-at sum o slot j below = tab-at (length sum) _ j 0 below
