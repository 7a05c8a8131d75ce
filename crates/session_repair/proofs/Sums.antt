-- The sum of a message and its members, on plain values: what the loop over the members keeps true, and that the front of the sum, as long
-- as the message, is the fill (rule 11.3). Assumes nothing.
use Rattle.std.proofs.Common.{◌≡◌, ℕ, suc, ◌+◌, ◌-◌, ◌*◌, ◌%◌, ◌<◌, ◌≤◌, List, ◌++◌, map, length, get_or, take, drop, sym, refl, ap, ◌∙◌, ap₂, ⊎_elim, arith, length-append, length-drop, length-take-le, get_or-drop, get_or-take, get_or-append-add, ext_get_or}
use lib.ListN.{get_or-append, get_or-eq_default}
use lib.Bits.{bit_xor, xor_zero_r}
use Rattle.octets.specs.ExclusiveOr.{xor_at}
use Rattle.octets.proofs.Laws.{xor_assoc, xor_at-cons, exclusive_or-at, below_or_not}
use Rattle.datagram.specs.Sizes.{packet_limit, messages_limit}
use Rattle.session.specs.Cells.{cell_at, kept_before, kept_ahead}
use Rattle.session.specs.Members.{members_of}
use Rattle.session.specs.Repair.{Message, other_members, mended}
use Rattle.session.proofs.Laws.{length-mended}
use Rattle.session_slots.specs.Store.{added, part}
use Rattle.session_slots.proofs.Laws.{length-added, added-at}
use Rattle.session.specs.View.{distance, numbers, number_at}
use Rattle.session_held.specs.Slots.{heard_slot_at, message_slot, slots_heard}
use Rattle.session_held.specs.Table.{Lent, n_in, m_in, message_size_in, message_in, cells_of}
use Rattle.session_held.specs.Laid.{InRanges}
use Rattle.session_repair.specs.Back.{slot_of, xor_back, Summed}
use Rattle.session_repair.specs.Promise.{n_at, m_at, message_size_at, message_held, AskedOctets}
use Rattle.session_repair.proofs.Members.{summed}
use Rattle.session_repair.proofs.Search.{searchable, m-near, reach_near, size-near, octets-long}

-- ---- the loop over the members: what is summed, with what is left to sum, is the whole
pub record Summing (o : List ℕ) (x n m : ℕ) (start : List ℕ) (at : ℕ) (sum : List ℕ) (k : ℕ) : Type 0 where
  pub long : length sum ≡ length start
  pub few : k ≤ n
  pub left : (j : ℕ) → j < length start
      → bit_xor (get_or sum j 0) (xor_back o at (n - k) m j) ≡ bit_xor (get_or start j 0) (xor_back o x n m j)

pub summing_start : (o : List ℕ) (x n m : ℕ) (sum : List ℕ) → Summing o x n m sum x sum 0
summing_start o x n m sum =
    record {
      long = refl;
      few = omega arith;
      left = λ j low. ap (λ (k : ℕ). bit_xor (get_or sum j 0) (xor_back o x k m j)) {x = n - 0} {y = n} (omega arith);
    }

xor_back-step : (o : List ℕ) (x n m k j : ℕ) → k < n
    → xor_back o x (n - k) m j ≡ bit_xor (get_or o (slot_of (distance m x) * packet_limit + j) 0) (xor_back o (distance m x) (n - (k + 1)) m j)
unfolding xor_back
xor_back-step o x n m k j more =
    let e : n - k ≡ suc (n - (k + 1)) = omega arith in
    rw e

pub summing-turn : {o start sum after : List ℕ} {x n m at k member slot : ℕ} → Summing o x n m start at sum k → k < n
    → member ≡ distance m at → slot ≡ slot_of member → after ≡ added sum o slot → Summing o x n m start member after (k + 1)
summing-turn {o} {start} {sum} {after} {x} {n} {m} {at} {k} {member} {slot} s more e f laid =
    record {
      long = ap (λ (l : List ℕ). length l) laid ∙ length-added sum o slot ∙ s.long;
      few = omega arith;
      left =
          λ j low.
          rw (laid, f, e, added-at sum o (slot_of (distance m at)) j (omega (arith, s.long)))
          (xor_assoc (get_or sum j 0) _ _
          ∙ ap (bit_xor (get_or sum j 0)) (sym (xor_back-step o at n m k j more))
          ∙ s.left j low);
    }

xor-none : (o : List ℕ) (x m j a : ℕ) → bit_xor a (xor_back o x 0 m j) ≡ a
unfolding xor_back
xor-none o x m j a = xor_zero_r a

pub summing-done : {o start sum : List ℕ} {x n m at k : ℕ} → Summing o x n m start at sum k → n ≤ k → Summed o x n m start sum
summing-done {o} {start} {sum} {x} {n} {m} {at} {k} s all =
    let none : n - k ≡ 0 = omega arith in
    record {
      long = s.long;
      each = λ j low. sym (xor-none o at m j (get_or sum j 0)) ∙ (rw none at (s.left j low));
    }

-- ---- the size that the code reads
pub size-read : (base : ℕ) (t : List ℕ) (d i : ℕ) {at slot size : ℕ} → at ≡ (base + d) % numbers → slot ≡ at % slots_heard
    → size ≡ message_size_in t (slot * messages_limit + i) → size ≡ message_size_at base t d i
size-read base t d i {at} {slot} {size} e-at e-slot e-size =
    let slot_is : slot ≡ heard_slot_at base d = omega arith in
    e-size ∙ ap (λ (j : ℕ). message_size_in t (j * messages_limit + i)) slot_is

pub size_small : {l : Lent} → InRanges l → (d i : ℕ) → i < m_at l.base l.table d → {at slot size : ℕ} → at ≡ (l.base + d) % numbers
    → slot ≡ at % slots_heard → size ≡ message_size_in l.table (slot * messages_limit + i) → size ≤ packet_limit
size_small {l} w d i low e-at e-slot e-size =
    rw (size-read l.base l.table d i e-at e-slot e-size) (size-near (searchable w) l.base d i low)

-- ---- the sum of a message and its members
module _ {l : Lent} (w : InRanges l) (d i : ℕ) (near : d < kept_ahead) (low : i < m_at l.base l.table d)
    {at slot n count m place size first index : ℕ} (start : List ℕ) (whole : length start ≡ packet_limit) {copied : List ℕ}
    (e-at : at ≡ (l.base + d) % numbers) (e-slot : slot ≡ at % slots_heard) (e-n : n ≡ n_in l.table slot)
    (e-count : count ≡ m_in l.table slot) (e-m : m ≡ count) (e-place : place ≡ slot * messages_limit + i)
    (e-size : size ≡ message_size_in l.table place) (e-copied : copied ≡ part l.messages place size ++ drop size start)
    (e-index : index ≡ i) (e-first : first ≡ (at + index) % numbers) where
  message : Message
  message = message_held l.base l.table l.messages d i

  slot_is : slot ≡ heard_slot_at l.base d
  slot_is = omega arith

  m-is : m ≡ m_at l.base l.table d
  m-is = e-m ∙ e-count ∙ ap (λ (j : ℕ). m_in l.table j) slot_is

  n-is : n ≡ n_at l.base l.table d
  n-is = e-n ∙ ap (λ (j : ℕ). n_in l.table j) slot_is

  place_is : place ≡ message_slot (heard_slot_at l.base d) i
  place_is = e-place ∙ ap (λ (k : ℕ). k * messages_limit + i) slot_is

  first-is : first ≡ number_at l.base (kept_before + d + i)
  first-is = omega arith

  size_is : size ≡ length message.octets
  unfolding message
  size_is =
      e-size ∙ ap (message_size_in l.table) place_is
      ∙ sym (octets-long (searchable w) l.base d l.messages w.laid.messages i low)

  part-is : part l.messages place size ≡ message.octets
  unfolding message message_held message_in
  part-is = rw (e-size, place_is)

  small : size ≤ packet_limit
  small = rw (e-size, place_is) (size-near (searchable w) l.base d i low)

  part-long : length (part l.messages place size) ≡ size
  part-long = ap (λ (x : List ℕ). length x) part-is ∙ sym size_is

  copied-long : length copied ≡ packet_limit
  copied-long =
      ap (λ (x : List ℕ). length x) e-copied ∙ length-append (part l.messages place size) (drop size start)
      ∙ omega (arith, part-long, length-drop size start, small, whole)

  -- what is added is what the other members have
  members-sum : (j : ℕ) → j < packet_limit
      → xor_back l.octets first n m j
      ≡ xor_at
      (map (λ p. (cell_at (cells_of l.base l.table l.octets) p).octets)
      (other_members (cells_of l.base l.table l.octets) message))
      j
  unfolding message message_held members_of
  members-sum j below =
      let N = n_at l.base l.table d in
      let M = m_at l.base l.table d in
      ap₂ (λ (x k : ℕ). xor_back l.octets x k m j) first-is n-is
      ∙ ap (λ (k : ℕ). xor_back l.octets (number_at l.base (kept_before + d + i)) N k j) m-is
      ∙ summed w N (kept_before + d + i) M j (omega (arith, reach_near (searchable w) l.base d)) (omega arith)
      (omega (arith, m-near (searchable w) l.base d)) below

  -- ---- over a width, where there were zeros: past its end the message has zeros too
  module _ (empty : (k : ℕ) → get_or start k 0 ≡ 0) {width : ℕ} (narrow : width ≤ packet_limit) {front : List ℕ}
      (s : Summed l.octets first n m (take width copied) front) where
    copied_at : (k : ℕ) → get_or copied k 0 ≡ get_or message.octets k 0
    copied_at k =
        ap (λ (x : List ℕ). get_or x k 0) e-copied
        ∙ ⊎_elim
        (λ below.
        get_or-append (part l.messages place size) (drop size start) 0 k (rw part-long below)
        ∙ ap (λ (x : List ℕ). get_or x k 0) part-is)
        (λ past.
        let there : k ≡ length (part l.messages place size) + (k - size) = omega (arith, part-long) in
        ap (λ (j : ℕ). get_or (part l.messages place size ++ drop size start) j 0) there
        ∙ get_or-append-add (part l.messages place size) (drop size start) (k - size) 0
        ∙ get_or-drop size start (k - size) 0
        ∙ empty (size + (k - size))
        ∙ sym (get_or-eq_default message.octets 0 {n = k} (rw (← size_is) past)))
        (below_or_not k size)

    taken-long : length (take width copied) ≡ width
    taken-long = length-take-le width copied (omega (arith, copied-long, narrow))

    front_long : length front ≡ width
    front_long = s.long ∙ taken-long

    pub asked-over : AskedOctets l.base l.table l.octets l.messages d i width (front ++ drop width copied)
    unfolding message
    asked-over =
        record {
          long = length-append front (drop width copied) ∙ omega (arith, front_long, length-drop width copied, narrow, copied-long);
          each = λ k inside.
              get_or-append front (drop width copied) 0 k (rw front_long inside)
              ∙ s.each k (rw taken-long inside)
              ∙ ap₂ bit_xor (get_or-take width copied k 0 inside ∙ copied_at k) (members-sum k (omega (arith, narrow)))
              ∙ sym (xor_at-cons _ _ k);
        }

-- ---- over the message's length: what mends
pub asked-front : {base : ℕ} {t o g : List ℕ} {d i : ℕ} {sum : List ℕ}
    → AskedOctets base t o g d i (length (message_held base t g d i).octets) sum
    → length (message_held base t g d i).octets ≤ packet_limit
    → take (length (message_held base t g d i).octets) sum ≡ mended (cells_of base t o) (message_held base t g d i)
unfolding mended
asked-front {base} {t} {o} {g} {d} {i} {sum} a small =
    let message = message_held base t g d i in
    let long = length-take-le (length message.octets) sum (omega (arith, a.long)) in
    ext_get_or 0 (take (length message.octets) sum) _ (long ∙ sym (length-mended (cells_of base t o) message))
    (λ j below.
    let low : j < length message.octets = omega (arith, long) in
    get_or-take (length message.octets) sum j 0 low
    ∙ a.each j low
    ∙ sym (exclusive_or-at (length message.octets) _ j low))
