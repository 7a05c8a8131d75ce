-- The ranges, in the words of the code: one law for each answer, and for each turn of the loop over the places.
-- Assumes nothing.
use Rattle.std.proofs.Common.{◌≡◌, ℕ, ◌+◌, ◌<◌, ◌≤◌, Bool, true, false, not, ◌&&◌, eqb, leb, List, sym, refl, ap, ◌∙◌, ap₂, arith, le-ltb, lt-ltb, le-leb}
use borrow.Author.Tests.{lt-leb, not-true, not-false}
use Rattle.octets.specs.Place.{all_below}
use mathlib.Core.Logic.{⊎_elim}
use mathlib.Core.Bool.{false≢true}
use Rattle.octets.proofs.Laws.{all_below-more, all_below-at, and_right, true-or-false}
use Rattle.datagram.specs.Sizes.{packet_limit}
use Rattle.session_slots.specs.Store.{zeros_past, HasSlot}
use Rattle.session.specs.View.{session_limit}
use Rattle.sender.specs.Sending.{history_kept}
use Rattle.sender.specs.Sender.{history_slot, length_in}
use Rattle.sender.specs.Ranges.{size_in_range, place_in_range, history_in_ranges}
use Rattle.sender.specs.Inner.Held.{Arrays}
use Rattle.sender.proofs.Laws.{has-slot, slot_small, size-limit}

-- ---- size_right
module _ (at size : ℕ) where
  pub size-before : at < history_kept → eqb size 0 ≡ size_in_range at size
  unfolding size_in_range
  size-before early = rw (lt-ltb at history_kept early)

  pub size-empty : history_kept ≤ at → size < 1 → leb 1 size ≡ size_in_range at size
  unfolding size_in_range
  size-empty late none = rw (le-ltb at history_kept late, lt-leb 1 size none) refl

  pub size-packet : history_kept ≤ at → 1 ≤ size → leb size packet_limit ≡ size_in_range at size
  unfolding size_in_range
  size-packet late some = rw (le-ltb at history_kept late, le-leb 1 size some)

pub ruleset sizings = (size-before, size-empty, size-packet)

-- ---- place_right
module _ (sent p : ℕ) (sizes o : List ℕ) {size : ℕ} {b : Bool} where
  pub place-wrong : size ≡ length_in sizes (history_slot sent p) → b ≡ size_in_range (sent + p) size → b ≡ false
      → b ≡ place_in_range sent sizes o p
  unfolding place_in_range
  place-wrong found tested out = rw (sym found, sym tested, out) refl

  pub place_rest : {r : Bool} → size ≡ length_in sizes (history_slot sent p) → b ≡ size_in_range (sent + p) size → b ≡ true
      → r ≡ zeros_past o (history_slot sent p) size → r ≡ place_in_range sent sizes o p
  unfolding place_in_range
  place_rest found tested in' last = rw (sym found, sym tested, in') last

-- what the zero check asks
pub slot-there : (sent p : ℕ) (sizes o : List ℕ) → Arrays sizes o → HasSlot (history_slot sent p) o
slot-there sent p sizes o arrays = has-slot o (history_slot sent p) arrays.octets (slot_small sent p)

pub size-told : (at : ℕ) {size : ℕ} {b : Bool} → b ≡ size_in_range at size → b ≡ true → size ≤ packet_limit
size-told at {size} tested in' = size-limit at size (sym tested ∙ in')

pub ruleset placings = (place-wrong, place_rest)

-- ---- in_ranges
-- the places below p are in range
pub record Ranging (sent : ℕ) (sizes o : List ℕ) (p : ℕ) : Type 0 where
  pub so : all_below p (place_in_range sent sizes o) ≡ true
  pub few : p ≤ history_kept

module _ (sent : ℕ) (sizes o : List ℕ) where
  pub ranges-over : session_limit < sent → false ≡ history_in_ranges sent sizes o
  unfolding history_in_ranges
  ranges-over over = rw (lt-leb sent session_limit over)

  pub ranging-start : Ranging sent sizes o 0
  unfolding all_below
  ranging-start = record { so = refl; few = omega arith }

  pub ranging-turn : {r : Bool} {p : ℕ} → Ranging sent sizes o p → p < history_kept → r ≡ place_in_range sent sizes o p → not r ≡ false
      → Ranging sent sizes o (p + 1)
  ranging-turn {r} {p} v more found right =
      record {
        so = all_below-more p (place_in_range sent sizes o) ∙ ap₂ (λ (a b : Bool). a && b) v.so (sym found ∙ not-false r right);
        few = omega arith;
      }

  pub ranging-done : {p : ℕ} → Ranging sent sizes o p → history_kept ≤ p → sent ≤ session_limit → true ≡ history_in_ranges sent sizes o
  unfolding history_in_ranges
  ranging-done {p} v end few =
      let all : p ≡ history_kept = (let small = v.few in omega arith) in
      rw (le-leb sent session_limit few) (sym v.so ∙ ap (λ (k : ℕ). all_below k (place_in_range sent sizes o)) all)

  pub ranges-wrong : {r : Bool} {p : ℕ} → p < history_kept → r ≡ place_in_range sent sizes o p → not r ≡ true
      → false ≡ history_in_ranges sent sizes o
  unfolding history_in_ranges
  ranges-wrong {r} {p} more found wrong =
      ⊎_elim
      (λ all.
      let place = all_below-at history_kept (place_in_range sent sizes o) (and_right (leb sent session_limit) _ all) p more in
      absurd (false≢true (sym (not-true r wrong) ∙ found ∙ place)))
      (λ some. sym some)
      (true-or-false (history_in_ranges sent sizes o))

pub ruleset rangings = (ranges-over, ranges-wrong, ranging-start, ranging-turn, ranging-done)
