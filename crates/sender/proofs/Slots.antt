-- Laws of the history's places and slots: it has all that a message covers, places that are apart have slots that are apart,
-- every slot is there, and a number has the slot that the count of packets sent has. Assumes nothing.
use Prim.Native.Nat.{ℕ, ◌+◌, ◌-◌, ◌*◌, ◌/◌, ◌%◌, ◌≤◌, ◌<◌}
use mathlib.Core.Path.{◌≡◌, sym, ap, ◌∙◌}
use mathlib.Core.List.{List}
use lib.ListN.{length}
use native.Mathlib.Nat.{div-add-mod', mul-le-mul, le_trans}
use native.Mathlib.Omega.{arith}
use Rattle.datagram.specs.Sizes.{packet_limit, covered_limit, messages_limit, reach_limit}
use Rattle.session_slots.specs.Store.{HasSlot}
use Rattle.session.specs.View.{numbers}
use Rattle.sender.specs.Sending.{history_kept}
use Rattle.sender.specs.Sender.{history_slot, history_octets}

-- the history has all that a message may cover: a reach is at most 32, and the last 32 packets are kept (rules 1.6 and 1.14)
pub reach-kept : reach_limit ≤ history_kept
reach-kept = omega arith

pub covered-kept : {n m : ℕ} → n ≤ covered_limit → m ≤ messages_limit → n * m ≤ history_kept
covered-kept covered messages = le_trans (mul-le-mul covered messages) reach-kept

pub slot_small : (sent p : ℕ) → history_slot sent p < history_kept
slot_small sent p = omega arith

pub slot_apart : (sent p q : ℕ) → p < history_kept → q < history_kept → history_slot sent p ≡ history_slot sent q → p ≡ q
slot_apart sent p q small low same = omega arith

-- the place of a slot
abbrev pub place_of : ℕ → ℕ → ℕ
place_of sent i = (i + (history_kept - sent % history_kept)) % history_kept

pub place-slot : (sent i : ℕ) → i < history_kept → history_slot sent (place_of sent i) ≡ i
place-slot sent i small =
    let whole = div-add-mod' sent history_kept in
    let low : sent % history_kept < history_kept = omega arith in
    omega arith

pub place-small : (sent i : ℕ) → place_of sent i < history_kept
place-small sent i = omega arith

pub has-slot : (o : List ℕ) (i : ℕ) → length o ≡ history_octets → i < history_kept → HasSlot i o
has-slot o i long small = omega arith

-- the number goes modulo 65,536, the slot modulo 32
pub slot-number : (sent p : ℕ) → history_slot (sent % numbers) p ≡ history_slot sent p
slot-number sent p = let whole = div-add-mod' sent numbers in omega arith
