-- The loop over a number's messages, on plain values: none of the messages so far is usable. Assumes nothing.
use Rattle.std.proofs.Common.{◌≡◌, ℕ, ◌+◌, ◌*◌, ◌%◌, ◌<◌, ◌≤◌, false, List, length, Some, None, sym, ap, ◌∙◌, ap₂, ⊎_elim, arith, eq-eqb, ne_eqb}
use Rattle.octets.proofs.Laws.{same_or_not}
use Rattle.datagram.specs.Sizes.{packet_limit, messages_limit}
use Rattle.session.specs.Cells.{kept_before, kept_ahead}
use Rattle.session.specs.Repair.{usable}
use Rattle.session.specs.View.{numbers, number_at}
use Rattle.session_held.specs.Slots.{heard_slot_at, slots_heard, message_octets}
use Rattle.session_held.specs.Table.{n_in, m_in, message_size_in, cells_of}
use Rattle.session_repair.specs.Back.{find_back}
use Rattle.session_repair.specs.Promise.{Searchable, n_at, m_at, message_size_at, message_held, missing_of, LowestFound, Seeable}
use Rattle.session_repair.specs.Promise.{LowestSeen}
use Rattle.session_repair.proofs.Search.{missing_at, usable-is, target_is, messages-are, first-none, first_some}

-- ---- the loop over a number's messages: none below i is usable
pub record NoneBelow (t : List ℕ) (at i : ℕ) : Type 0 where
  pub none : (base d : ℕ) → d < kept_ahead → at ≡ (base + d) % numbers → (k : ℕ) → k < i → (o g : List ℕ) → length g ≡ message_octets
      → usable (cells_of base t o) (message_held base t g d k) ≡ false

pub below-start : (t : List ℕ) (at : ℕ) → NoneBelow t at 0
below-start t at = record { none = λ base d near e k low. absurd (omega arith) }

-- one turn, from a base and a distance at which the number is seen
module _ {t : List ℕ} {at slot n m i index place size first unknown : ℕ} (s : Seeable t at slot n m) (more : i < m)
    (e-index : index ≡ i) (e-place : place ≡ slot * messages_limit + index) (e-size : size ≡ message_size_in t place)
    (e-first : first ≡ (at + i) % numbers) (e-unknown : unknown ≡ missing_of size t first n m)
    (base d : ℕ) (e-at : at ≡ (base + d) % numbers) where
  slot_is : slot ≡ heard_slot_at base d
  slot_is = s.place ∙ omega arith

  n-is : n ≡ n_at base t d
  n-is = s.covered ∙ ap (λ (j : ℕ). n_in t j) slot_is

  m-is : m ≡ m_at base t d
  m-is = s.count ∙ ap (λ (j : ℕ). m_in t j) slot_is

  first-is : first ≡ number_at base (kept_before + d + i)
  first-is = omega arith

  size_is : size ≡ message_size_at base t d i
  size_is = e-size ∙ ap (message_size_in t) (e-place ∙ ap₂ (λ (j k : ℕ). j * messages_limit + k) slot_is e-index)

  low : i < m_at base t d
  low = rw m-is at more

  unknown-is : unknown ≡ missing_at base t d i
  unknown-is = e-unknown ∙ rw (size_is, first-is, n-is, m-is)

module _ {t : List ℕ} {at slot n m i index place size first unknown : ℕ} (s : Seeable t at slot n m) (b : NoneBelow t at i) (more : i < m)
    (e-index : index ≡ i) (e-place : place ≡ slot * messages_limit + index) (e-size : size ≡ message_size_in t place)
    (e-first : first ≡ (at + i) % numbers) (e-unknown : unknown ≡ missing_of size t first n m) where
  pub below-turn : (unknown ≡ 1 → ⊥) → NoneBelow t at (i + 1)
  below-turn miss =
      record {
        none =
            λ base d near e k small o g long.
            ⊎_elim
            (λ same.
            rw same
            (usable-is s.table base d near i (low s more e-index e-place e-size e-first e-unknown base d e) o g long
            ∙ ne_eqb _ 1 (λ one. miss (unknown-is s more e-index e-place e-size e-first e-unknown base d e ∙ one))))
            (λ other. b.none base d near e k (omega arith) o g long)
            (same_or_not k i);
      }

  pub lowest-hit : {target : ℕ} → unknown ≡ 1 → target ≡ find_back t first n m → LowestSeen t at (Some (record { index = index; slot = target }))
  lowest-hit {target} hit e-target = record { found = at_base } where
    at_base : (base d : ℕ) → d < kept_ahead → at ≡ (base + d) % numbers → LowestFound base t d (Some (record { index = index; slot = target }))
    at_base base d near e =
        let here = low s more e-index e-place e-size e-first e-unknown base d e in
        let count = unknown-is s more e-index e-place e-size e-first e-unknown base d e in
        record {
          answer =
              λ o g long.
              rw (messages-are base t g d, e-index)
              (first_some (cells_of base t o) (m_at base t d) (message_held base t g d) i here
              (λ k small. b.none base d near e k small o g long)
              (usable-is s.table base d near i here o g long ∙ eq-eqb _ 1 (sym count ∙ hit)));
          points =
              record {
                near = near;
                low = rw e-index here;
                target =
                    λ o g.
                    rw e-index
                    (e-target
                    ∙ rw (
                      first-is s more e-index e-place e-size e-first e-unknown base d e,
                      n-is s more e-index e-place e-size e-first e-unknown base d e,
                      m-is s more e-index e-place e-size e-first e-unknown base d e,
                    )
                    (target_is s.table base d near i here o g (sym count ∙ hit)));
              };
        }

-- no message of the number is usable
none_seen : {t : List ℕ} {at slot m i : ℕ} → NoneBelow t at i → m ≤ i → slot ≡ at % slots_heard → m ≡ m_in t slot
    → LowestSeen t at None
none_seen {t} {at} {slot} {m} {i} b all e-slot e-m = record { found = at_base } where
  at_base : (base d : ℕ) → d < kept_ahead → at ≡ (base + d) % numbers → LowestFound base t d None
  at_base base d near e =
      let slot_is : slot ≡ heard_slot_at base d = e-slot ∙ omega arith in
      let m-is : m ≡ m_at base t d = e-m ∙ ap (λ (j : ℕ). m_in t j) slot_is in
      record {
        answer =
            λ o g long.
            rw (messages-are base t g d)
            (first-none (cells_of base t o) (m_at base t d) (message_held base t g d)
            (λ k small. b.none base d near e k (omega (arith, m-is)) o g long));
        points = tt;
      }

pub lowest-none : {t : List ℕ} {at slot n m i : ℕ} → Seeable t at slot n m → NoneBelow t at i → m ≤ i → LowestSeen t at None
lowest-none s b all = none_seen b all s.place s.count

-- what is read of a number in the search
pub seeable : {t : List ℕ} {at slot count n m : ℕ} → Searchable t → slot ≡ at % slots_heard → count ≡ m_in t slot → n ≡ n_in t slot → m ≡ count
    → Seeable t at slot n m
seeable s e-slot e-count e-n e-m = record { table = s; place = e-slot; covered = e-n; count = e-m ∙ e-count }

pub small_count : {t : List ℕ} {slot count : ℕ} → Searchable t → slot < slots_heard → count ≡ m_in t slot → count ≤ packet_limit
small_count {t} {slot} s small e = omega (arith, e, s.few slot small)

-- a number without messages
pub lowest-empty : {t : List ℕ} {at slot count : ℕ} → slot ≡ at % slots_heard → count ≡ m_in t slot → count ≡ 0
    → LowestSeen t at None
lowest-empty {t} {at} {slot} {count} e-slot e-m empty = none_seen (below-start t at) (omega arith) e-slot e-m
