-- The ranges of a session as the code checks them (rules 13.1 to 13.11): the kept numbers slot by slot, and what is held by distance from
-- the base. All of them together are proved to be `lent_in_ranges`. Definitions only.
use Rattle.std.specs.Prelude.{ℕ, ◌+◌, ◌-◌, ◌*◌, ◌%◌, ◌<◌, ◌≤◌, Bool, cond, not, ◌&&◌, List, ◌==◌, nat_le, nat_lt, slice_index}
use Rattle.octets.specs.Place.{all_below}
use Rattle.datagram.specs.Sizes.{packet_limit, messages_limit}
use Rattle.session.specs.Cells.{is_unknown, kept_before}
use Rattle.session_slots.specs.Store.{zeros_past}
use Rattle.session.specs.Ranges.{blank_at, size_right, note_right, mark_right}
use Rattle.session.specs.View.{number_at}
use Rattle.session_held.specs.Slots.{slots_kept, slot_at, heard_slot_at, message_slot}
use Rattle.session_held.specs.Table.{last_state, state_in, size_in, note_in, mark_in, n_in, m_in, message_size_in, state_numbered}
use Rattle.session_held.specs.Laid.{message_laid}

-- a number that encodes a state, with the length beside it (rules 13.4 and 13.11)
unfoldable pub state_right : ℕ → ℕ → Bool → Bool
state_right number size must_be_blank = nat_le number last_state && size_right (state_numbered number) size must_be_blank

-- how many of the numbers before the base that are in view have passed
unfoldable pub passed_of : ℕ → ℕ
passed_of total = cond (nat_lt total kept_before) total kept_before

-- the place in the view of the number in slot i: number − base + 32
abbrev pub place_of_slot : ℕ → ℕ → ℕ
place_of_slot base i = (i + (kept_before + slots_kept - base % slots_kept)) % slots_kept

-- the kept number in slot i: its state and its length (rules 13.3, 13.4 and 13.11)
unfoldable pub state_test : ℕ → ℕ → List ℕ → ℕ → Bool
state_test base total table i = state_right (state_in table i) (size_in table i) (blank_at total (place_of_slot base i))

-- .. its note (rule 13.10)
unfoldable pub note_test : ℕ → List ℕ → ℕ → Bool
note_test base table i = note_right (state_numbered (state_in table i)) (note_in table i) (number_at base (place_of_slot base i))

-- .. and its octets (rule 13.5)
unfoldable pub packet_test : List ℕ → List ℕ → ℕ → Bool
packet_test table octets i = zeros_past octets i (size_in table i)

-- no length is more than a slot holds
abbrev pub SizesFit : List ℕ → Type 0
SizesFit table = (i : ℕ) → i < slots_kept → size_in table i ≤ packet_limit

-- all kept numbers
unfoldable pub all_kept : ℕ → ℕ → List ℕ → List ℕ → Bool
all_kept base total table octets = all_below slots_kept (state_test base total table) && all_below slots_kept (packet_test table octets)

-- a number that encodes a mark, with n and m beside it (rules 13.6 to 13.8 and 13.11)
unfoldable pub marked_right : ℕ → Bool → ℕ → ℕ → Bool
marked_right mark known n m = nat_le mark 1 && mark_right (mark == 1) known n m

-- slot j of numbers from the base on: its mark, n and m, and its messages
unfoldable pub heard_right : List ℕ → List ℕ → ℕ → Bool → Bool
heard_right table messages j known =
    marked_right (mark_in table j) known (n_in table j) (m_in table j) && all_below messages_limit (message_laid table messages j (m_in table j))

-- the number at distance d from the base
unfoldable pub heard_test : ℕ → List ℕ → List ℕ → ℕ → Bool
heard_test base table messages d =
    heard_right table messages (heard_slot_at base d) (not (is_unknown (state_numbered (state_in table (slot_at base (kept_before + d))))))

-- message place i of slot j has length 0; its slot has only zeros
unfoldable pub sizeless : List ℕ → ℕ → ℕ → Bool
sizeless table j i = message_size_in table (message_slot j i) == 0

unfoldable pub empty_at : List ℕ → ℕ → ℕ → Bool
empty_at messages j i = zeros_past messages (message_slot j i) 0

-- how many octets the messages of a slot have; octet k of those of slot j is zero
abbrev pub held_octets : ℕ
held_octets = messages_limit * packet_limit

unfoldable pub octet_zero : List ℕ → ℕ → ℕ → Bool
octet_zero messages j k = slice_index messages (j * held_octets + k) == 0
