-- The ranges of a sending session (rule 15.13). Definitions only.
use Rattle.std.specs.Prelude.{ℕ, ◌+◌, Bool, cond, ◌&&◌, List, leb, ltb, eqb}
use Rattle.octets.specs.Place.{all_below}
use Rattle.datagram.specs.Sizes.{packet_least, packet_limit}
use Rattle.length.specs.Length.{within}
use Rattle.session_slots.specs.Store.{zeros_past}
use Rattle.session.specs.View.{session_limit}
use Rattle.sender.specs.Sending.{history_kept}
use Rattle.sender.specs.Sender.{history_slot, length_in}
use Rattle.sender.specs.declared.Sender.{Sender}

-- the length of the number at − history_kept: 0 for a number before the first, otherwise a packet's (rule 15.13)
unfoldable pub size_in_range : ℕ → ℕ → Bool
size_in_range at size = cond (ltb at history_kept) (eqb size 0) (within packet_least packet_limit size)

-- the packet at place p, of the number sent − history_kept + p: its length is in range, and the octets past it are zero
unfoldable pub place_in_range : ℕ → List ℕ → List ℕ → ℕ → Bool
place_in_range sent sizes o p =
    size_in_range (sent + p) (length_in sizes (history_slot sent p)) && zeros_past o (history_slot sent p) (length_in sizes (history_slot sent p))

-- at most 1,000,000 sent, and every place of the history in range
unfoldable pub history_in_ranges : ℕ → List ℕ → List ℕ → Bool
history_in_ranges sent sizes o = leb sent session_limit && all_below history_kept (place_in_range sent sizes o)

-- the same of a session
abbrev pub sender_in_ranges : Sender → Bool
sender_in_ranges s = history_in_ranges s.sent s.sizes s.octets
