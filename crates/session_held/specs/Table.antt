-- The session in memory: base and counts by value, one table of numbers, and two stores (rules 9.2 and 9.4). `view_in` is the session that
-- the rules describe, and every promise uses it. Definitions only.
use Rattle.std.specs.Prelude.{ℕ, ◌+◌, ◌*◌, cond, List, get_or, set, eqb}
use Rattle.octets.specs.Place.{tab}
use Rattle.datagram.specs.Sizes.{messages_limit}
use Rattle.session.specs.Cells as cells
use Rattle.session.specs.Cells.{Cell, kept_ahead, kept_numbers}
use Rattle.session.specs.Held as held
use Rattle.session_slots.specs.Store.{part}
use Rattle.session.specs.View as views
use Rattle.session.specs.View.{View}
use Rattle.session_held.specs.Slots.{slots_kept, slots_heard, slots_messages, slot_at, heard_slot_at, message_slot}
use Rattle.session_held.specs.declared.ReleaseKind.{ReleaseKind}
use Rattle.session_held.specs.declared.ReleaseKind.TheVariants.{Received, Spare, Repaired, Lost}
use Rattle.session_held.specs.declared.Counts.{Counts}
use Rattle.session_held.specs.declared.Session.{Session}

-- ---- the place of each value of a slot in the table: a run for each value
abbrev pub state_place : ℕ → ℕ
state_place i = i

abbrev pub size_place : ℕ → ℕ
size_place i = slots_kept + i

abbrev pub note_place : ℕ → ℕ
note_place i = slots_kept + slots_kept + i

abbrev pub mark_place : ℕ → ℕ
mark_place j = slots_kept + slots_kept + slots_kept + j

abbrev pub n_place : ℕ → ℕ
n_place j = slots_kept + slots_kept + slots_kept + slots_heard + j

abbrev pub m_place : ℕ → ℕ
m_place j = slots_kept + slots_kept + slots_kept + slots_heard + slots_heard + j

abbrev pub message_place : ℕ → ℕ
message_place k = slots_kept + slots_kept + slots_kept + slots_heard + slots_heard + slots_heard + k

abbrev pub places : ℕ
places = slots_kept + slots_kept + slots_kept + slots_heard + slots_heard + slots_heard + slots_messages

-- the value at that place
abbrev pub state_in : List ℕ → ℕ → ℕ
state_in table i = get_or table (state_place i) 0

abbrev pub size_in : List ℕ → ℕ → ℕ
size_in table i = get_or table (size_place i) 0

abbrev pub note_in : List ℕ → ℕ → ℕ
note_in table i = get_or table (note_place i) 0

abbrev pub mark_in : List ℕ → ℕ → ℕ
mark_in table j = get_or table (mark_place j) 0

abbrev pub n_in : List ℕ → ℕ → ℕ
n_in table j = get_or table (n_place j) 0

abbrev pub m_in : List ℕ → ℕ → ℕ
m_in table j = get_or table (m_place j) 0

abbrev pub message_size_in : List ℕ → ℕ → ℕ
message_size_in table k = get_or table (message_place k) 0

-- ---- the states, encoded as numbers; a number over 4 is outside the ranges (rule 13.11)
abbrev pub last_state : ℕ
last_state = 4

unfoldable pub state_numbered : ℕ → cells.State
state_numbered n =
    cond (eqb n 0) cells.unknown (cond (eqb n 1) cells.received (cond (eqb n 2) cells.spare (cond (eqb n 3) cells.repaired cells.blank)))

-- the state in which a number leaves, by the kind that an answer names (rule 30.10): a lost number is unknown, and a blank one never leaves
abbrev pub state_of : ReleaseKind → cells.State
state_of Received = cells.received
state_of Spare = cells.spare
state_of Repaired = cells.repaired
state_of Lost = cells.unknown

abbrev pub counts_of : Counts → views.Counts
counts_of c = record { received = c.received; spare = c.spare; repaired = c.repaired; lost = c.lost }

-- ---- the memory of a session
pub record Lent : Type 0 where
  pub base : ℕ
  pub counts : Counts
  pub table : List ℕ
  pub octets : List ℕ
  pub messages : List ℕ

abbrev pub lent : ℕ → Counts → List ℕ → List ℕ → List ℕ → Lent
lent base counts table octets messages =
    record { base = base; counts = counts; table = table; octets = octets; messages = messages }

abbrev pub lent_by : Session → Lent
lent_by s = lent s.base s.counts s.table s.octets s.messages

-- ---- from slots to the session that the rules describe
-- the kept number in slot i, with its octets and its note
unfoldable pub cell_in : List ℕ → List ℕ → ℕ → Cell
cell_in table octets i =
    record { state = state_numbered (state_in table i); octets = part octets i (size_in table i); note = note_in table i }

-- message i of the number whose slot is j
unfoldable pub message_in : List ℕ → List ℕ → ℕ → ℕ → List ℕ
message_in table messages j i = part messages (message_slot j i) (message_size_in table (message_slot j i))

-- what is held in slot j: mark, n and messages
unfoldable pub held_in : List ℕ → List ℕ → ℕ → held.Held
held_in table messages j =
    record { accepted = eqb (mark_in table j) 1; n = n_in table j; messages = tab (m_in table j) (message_in table messages j) }

-- the 64 numbers, from 32 before the base on, and what is held of the 32 from the base on (rule 1.13)
unfoldable pub cells_of : ℕ → List ℕ → List ℕ → List Cell
cells_of base table octets = tab kept_numbers (λ p. cell_in table octets (slot_at base p))

unfoldable pub held_of : ℕ → List ℕ → List ℕ → List held.Held
held_of base table messages = tab kept_ahead (λ d. held_in table messages (heard_slot_at base d))

-- the session that the rules describe
unfoldable pub view_in : Lent → View
view_in l =
    record {
      base = l.base;
      counts = counts_of l.counts;
      cells = cells_of l.base l.table l.octets;
      held = held_of l.base l.table l.messages;
    }

abbrev pub view_of : Session → View
view_of s = view_in (lent_by s)

-- ---- the table with other values in a slot
abbrev pub kept_set : List ℕ → ℕ → ℕ → ℕ → ℕ → List ℕ
kept_set table i state size note = set (set (set table (state_place i) state) (size_place i) size) (note_place i) note

abbrev pub heard_set : List ℕ → ℕ → ℕ → ℕ → ℕ → List ℕ
heard_set table j mark n m = set (set (set table (mark_place j) mark) (n_place j) n) (m_place j) m

-- no sizes of messages, and nothing held, in slot j (rule 12.7)
abbrev pub sizes_freed : List ℕ → ℕ → List ℕ
sizes_freed table at = set (set (set (set table at 0) (at + 1) 0) (at + 2) 0) (at + 3) 0

abbrev pub heard_dropped : List ℕ → ℕ → List ℕ
heard_dropped table j = sizes_freed (heard_set table j 0 0 0) (message_place (j * messages_limit))
