-- What the layout in slots adds to the ranges of a session: octets past a length are zero, message places past m have length 0, and only
-- certain numbers encode a state or a mark (rules 13.5, 13.9 and 13.11). All is stated by slots, without the base. Definitions only.
use Rattle.std.specs.Prelude.{ℕ, ◌≤◌, ◌<◌, ◌≡◌, Bool, true, cond, ◌&&◌, List, length, leb, ltb}
use Rattle.octets.specs.Place.{all_below}
use Rattle.datagram.specs.Sizes.{packet_limit, message_limit, messages_limit}
use Rattle.session_slots.specs.Store.{zeros_past}
use Rattle.session.specs.Ranges.{in_ranges, Sound}
use Rattle.session_held.specs.Slots.{slots_kept, slots_heard, message_slot, kept_octets, message_octets}
use Rattle.session_held.specs.Table.{Lent, lent_by, view_in, places, last_state, state_in, size_in, mark_in, m_in, message_size_in}
use Rattle.session_held.specs.declared.Session.{Session}

-- slot i of kept numbers: its state, its length, and zeros past the length (rules 13.4, 13.5 and 13.11)
unfoldable pub kept_laid : List ℕ → List ℕ → ℕ → Bool
kept_laid table octets i = (leb (state_in table i) last_state && leb (size_in table i) packet_limit) && zeros_past octets i (size_in table i)

-- message i of slot j, of which m are held: a place past m has length 0 (rule 13.9), and octets past a length are zero (rule 13.5)
unfoldable pub message_laid : List ℕ → List ℕ → ℕ → ℕ → ℕ → Bool
message_laid table messages j m i =
    leb (message_size_in table (message_slot j i)) (cond (ltb i m) message_limit 0)
    && zeros_past messages (message_slot j i) (message_size_in table (message_slot j i))

-- slot j of numbers from the base on: its mark, m and its messages (rules 13.8 and 13.11)
unfoldable pub heard_laid : List ℕ → List ℕ → ℕ → Bool
heard_laid table messages j =
    (leb (mark_in table j) 1 && leb (m_in table j) messages_limit)
    && all_below messages_limit (message_laid table messages j (m_in table j))

unfoldable pub laid : Lent → Bool
laid l =
    all_below slots_kept (kept_laid l.table l.octets) && all_below slots_heard (heard_laid l.table l.messages)

-- a call refuses the session with 17 exactly if this does not hold (rule 13.12)
unfoldable pub lent_in_ranges : Lent → Bool
lent_in_ranges l = laid l && in_ranges (view_in l)

abbrev pub session_in_ranges : Session → Bool
session_in_ranges s = lent_in_ranges (lent_by s)

-- the layout as the calls inside the session require and keep it: slot by slot
pub record Laid (table kept heard : List ℕ) : Type 0 where
  pub long : length table ≡ places
  pub octets : length kept ≡ kept_octets
  pub messages : length heard ≡ message_octets
  pub state : (i : ℕ) → i < slots_kept → state_in table i ≤ last_state
  pub size : (i : ℕ) → i < slots_kept → size_in table i ≤ packet_limit
  pub packet : (i : ℕ) → i < slots_kept → zeros_past kept i (size_in table i) ≡ true
  pub mark : (j : ℕ) → j < slots_heard → mark_in table j ≤ 1
  pub few : (j : ℕ) → j < slots_heard → m_in table j ≤ messages_limit
  pub part : (j i : ℕ) → j < slots_heard → i < messages_limit → message_size_in table (message_slot j i) ≤ packet_limit
  pub past : (j i : ℕ) → j < slots_heard → i < messages_limit → m_in table j ≤ i → message_size_in table (message_slot j i) ≡ 0
  pub message : (j i : ℕ) → j < slots_heard → i < messages_limit
      → zeros_past heard (message_slot j i) (message_size_in table (message_slot j i)) ≡ true

-- the session is within its ranges: its layout, and its view
pub record InRanges (l : Lent) : Type 0 where
  pub laid : Laid l.table l.octets l.messages
  pub sound : Sound (view_in l)
