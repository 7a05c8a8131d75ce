-- Laws of slots: places that are apart have slots that are apart, every slot is there, and is the slot of a place. Assumes
-- nothing.
use Prim.Native.Nat.{ℕ, suc, ◌+◌, ◌-◌, ◌%◌, ◌<◌}
use mathlib.Core.Path.{◌≡◌}
use mathlib.Core.List.{List}
use mathlib.Core.Logic.{⊎_elim}
use lib.ListN.{length}
use native.Mathlib.Omega.{arith}
use Rattle.octets.proofs.Laws.{below_or_not}
use Rattle.datagram.specs.Sizes.{messages_limit}
use Rattle.session.specs.Cells.{kept_ahead, kept_numbers}
use Rattle.session_slots.specs.Store.{HasSlot}
use Rattle.session.specs.View.{numbers, following}
use Rattle.session_held.specs.Slots.{slot_at, heard_slot_at, message_slot, Apart, slots_kept, slots_heard, slots_messages, kept_octets}
use Rattle.session_held.specs.Slots.{message_octets}

pub slot_small : (base p : ℕ) → slot_at base p < slots_kept
slot_small base p = omega arith

pub heard-small : (base d : ℕ) → heard_slot_at base d < slots_heard
heard-small base d = omega arith

pub message-small : (j i : ℕ) → j < slots_heard → i < messages_limit → message_slot j i < slots_messages
message-small j i small low = omega arith

pub slot_apart : (base p q : ℕ) → p < kept_numbers → q < kept_numbers → slot_at base p ≡ slot_at base q → p ≡ q
slot_apart base p q small low same = omega arith

pub heard-apart : (base d e : ℕ) → d < kept_ahead → e < kept_ahead → heard_slot_at base d ≡ heard_slot_at base e → d ≡ e
heard-apart base d e small low same = omega arith

pub message-apart : (j i k l : ℕ) → i < messages_limit → l < messages_limit → message_slot j i ≡ message_slot k l → (j ≡ k) × (i ≡ l)
message-apart j i k l small low same = (omega arith, omega arith)

-- a slot apart from the first i + 1 is apart from the first i, and is not slot i
pub apart-before : (j i k : ℕ) → Apart j (i + 1) k → Apart j i k
apart-before j i k apart e below = apart e (omega arith)

pub apart-here : (j i k : ℕ) → Apart j (i + 1) k → k ≡ message_slot j i → ⊥
apart-here j i k apart = apart i (omega arith)

pub has-packet-slot : (o : List ℕ) (i : ℕ) → length o ≡ kept_octets → i < slots_kept → HasSlot i o
has-packet-slot o i long small = omega arith

pub has-message-slot : (g : List ℕ) (k : ℕ) → length g ≡ message_octets → k < slots_messages → HasSlot k g
has-message-slot g k long small = omega arith

-- every slot is the slot of a place
pub slot_of : (base i : ℕ) → i < slots_kept → (p : ℕ) × (p < kept_numbers) × (slot_at base p ≡ i)
slot_of base i small =
    ⊎_elim (λ far. (i + 96 - base % 64, omega arith, omega arith))
    (λ near.
    ⊎_elim (λ before. (i + 32 - base % 64, omega arith, omega arith)) (λ past. (i - 32 - base % 64, omega arith, omega arith))
    (below_or_not i (base % 64 + 32)))
    (below_or_not (i + 32) (base % 64))

pub heard-slot-of : (base j : ℕ) → j < slots_heard → (d : ℕ) × (d < kept_ahead) × (heard_slot_at base d ≡ j)
heard-slot-of base j small =
    ⊎_elim (λ before. (j + 32 - base % 32, omega arith, omega arith)) (λ past. (j - base % 32, omega arith, omega arith))
    (below_or_not j (base % 32))

-- the base goes on by one: 64 and 32 divide 65,536, so the view goes on by one place
pub slot-after : (b p : ℕ) → b < numbers → slot_at (following b) p ≡ slot_at b (suc p)
slot-after b p small = omega arith

pub slot-comes : (b : ℕ) → b < numbers → slot_at (following b) 63 ≡ slot_at b 0
slot-comes b small = omega arith

pub heard-after : (b d : ℕ) → b < numbers → heard_slot_at (following b) d ≡ heard_slot_at b (suc d)
heard-after b d small = omega arith

pub heard-leaves : (b : ℕ) → b < numbers → heard_slot_at (following b) 31 ≡ heard_slot_at b 0
heard-leaves b small = omega arith
