-- The slot of a place of the view, and the place of a slot: each is the other's inverse. Assumes nothing.
use Rattle.std.proofs.Common.{◌≡◌, ℕ, ◌+◌, ◌-◌, ◌%◌, ◌<◌, ◌≤◌, ⊎_elim, arith}
use Rattle.octets.proofs.Laws.{below_or_not}
use Rattle.session.specs.Cells.{kept_before, kept_numbers}
use Rattle.session_held.specs.Slots.{slots_kept, slot_at}
use Rattle.session_held.proofs.Laws.{slot_small, slot_apart}
use Rattle.session_check.specs.Pieces.{place_of_slot}

module _ (b i : ℕ) (low : b < slots_kept) (small : i < slots_kept) where
  place-far : i + kept_before < b → (i + (kept_before + slots_kept - b)) % slots_kept ≡ i + 96 - b
  place-far far = omega arith

  place-near : b ≤ i + kept_before → i < b + kept_before → (i + (kept_before + slots_kept - b)) % slots_kept ≡ i + 32 - b
  place-near near before = omega arith

  place-past : b + kept_before ≤ i → (i + (kept_before + slots_kept - b)) % slots_kept ≡ i - 32 - b
  place-past past = omega arith

pub place-small : (base i : ℕ) → place_of_slot base i < kept_numbers
place-small base i = omega arith

pub slot-place : (base i : ℕ) → i < slots_kept → slot_at base (place_of_slot base i) ≡ i
slot-place base i small =
    ⊎_elim (λ far. rw (place-far (base % slots_kept) i (omega arith) small far) (omega arith))
    (λ near.
    ⊎_elim (λ before. rw (place-near (base % slots_kept) i (omega arith) small near before) (omega arith))
    (λ past. rw (place-past (base % slots_kept) i (omega arith) small past) (omega arith))
    (below_or_not i (base % slots_kept + kept_before)))
    (below_or_not (i + kept_before) (base % slots_kept))

pub place-slot : (base p : ℕ) → p < kept_numbers → place_of_slot base (slot_at base p) ≡ p
place-slot base p below =
    slot_apart base (place_of_slot base (slot_at base p)) p (place-small base (slot_at base p)) below
    (slot-place base (slot_at base p) (slot_small base p))
