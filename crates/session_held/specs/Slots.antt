-- Which slot a number has: the number modulo the count of slots, so nothing moves when the base moves on (rule 9.13). Definitions only.
use Rattle.std.specs.Prelude.{ℕ, ◌+◌, ◌*◌, ◌%◌, ◌<◌, ◌≡◌}
use Rattle.datagram.specs.Sizes.{packet_limit, messages_limit}
use Rattle.session.specs.Cells.{kept_before, kept_ahead, kept_numbers}

-- the slots of kept numbers, of numbers from the base on, and of messages; the octets of both stores
abbrev pub slots_kept : ℕ
slots_kept = kept_numbers

abbrev pub slots_heard : ℕ
slots_heard = kept_ahead

abbrev pub slots_messages : ℕ
slots_messages = slots_heard * messages_limit

abbrev pub kept_octets : ℕ
kept_octets = slots_kept * packet_limit

abbrev pub message_octets : ℕ
message_octets = slots_messages * packet_limit

-- the slot of the kept number at place p of the view: that number is `number_at base p`
abbrev pub slot_at : ℕ → ℕ → ℕ
slot_at base p = (base + kept_before + p) % slots_kept

-- the slot of the number at distance d from the base
abbrev pub heard_slot_at : ℕ → ℕ → ℕ
heard_slot_at base d = (base + d) % slots_heard

-- the slot of message i of the number whose slot is j
abbrev pub message_slot : ℕ → ℕ → ℕ
message_slot j i = j * messages_limit + i

-- slot k is none of the first m message slots of slot j
abbrev pub Apart : ℕ → ℕ → ℕ → Type 0
Apart j m k = (i : ℕ) → i < m → k ≡ message_slot j i → ⊥
