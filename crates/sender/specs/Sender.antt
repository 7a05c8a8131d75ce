-- From the stored session to the session of the rules (rules 15.12 and 15.16): which slot a number has, and which packet is in it.
-- Every promise uses one abstraction, `sending_of`. Definitions only.
use Rattle.std.specs.Prelude.{ℕ, ◌+◌, ◌*◌, ◌%◌, List, get_or}
use Rattle.octets.specs.Place.{tab}
use Rattle.datagram.specs.Sizes.{packet_limit}
use Rattle.session_slots.specs.Store.{part}
use Rattle.sender.specs.Sending.{Sending, history_kept}
use Rattle.sender.specs.declared.Sender.{Sender}

-- the octets of the store: a slot for each packet of the history
abbrev pub history_octets : ℕ
history_octets = history_kept * packet_limit

-- the slot of the number at place p of the history: that number is sent − history_kept + p, its slot the number modulo 32 (rule 15.18)
abbrev pub history_slot : ℕ → ℕ → ℕ
history_slot sent p = (sent + p) % history_kept

-- how many octets the packet in slot i has
abbrev pub length_in : List ℕ → ℕ → ℕ
length_in sizes i = get_or sizes i 0

-- the packet in slot i
abbrev pub packet_in : List ℕ → List ℕ → ℕ → List ℕ
packet_in sizes o i = part o i (length_in sizes i)

-- the history, where `sent` packets were sent
unfoldable pub history_in : ℕ → List ℕ → List ℕ → List (List ℕ)
history_in sent sizes o = tab history_kept (λ p. packet_in sizes o (history_slot sent p))

-- the session of the rules
abbrev pub sending_in : ℕ → List ℕ → List ℕ → Sending
sending_in sent sizes o = record { sent = sent; history = history_in sent sizes o }

abbrev pub sending_of : Sender → Sending
sending_of s = sending_in s.sent s.sizes s.octets
