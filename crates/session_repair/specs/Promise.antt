-- What the searches, the fill and the whole repair promise, a record for each (rules 11.1 to 11.4). A search reads only the table, so its
-- promise holds for every pair of stores. Definitions only.
use Rattle.std.specs.Prelude.{◌≡◌, ℕ, ◌+◌, ◌%◌, ◌<◌, ◌≤◌, cond, List, ◌∷◌, map, length, ◌==◌, slice_index, Option, Some, None}
use Rattle.std.proofs.Math.Option as maths
use Rattle.octets.specs.ExclusiveOr.{xor_at}
use Rattle.datagram.specs.Sizes.{packet_limit, covered_limit, messages_limit}
use Rattle.session.specs.Cells.{repaired, filled_cell, cell_at, kept_before, kept_ahead}
use Rattle.session.specs.Members.{members_of}
use Rattle.session.specs.Repair.{Message, unknown_members, other_members, first_usable, fill, repair}
use Rattle.session.specs.Held.{messages_of, held_messages}
use Rattle.session.specs.View.{View, numbers}
use Rattle.session_held.specs.Slots.{slot_at, heard_slot_at, message_slot, slots_kept, slots_heard, message_octets}
use Rattle.session_held.specs.Table.{Lent, lent, places, n_in, m_in, message_size_in, message_in, held_in, cells_of, held_of, view_in}
use Rattle.session_held.specs.Laid.{InRanges}
use Rattle.session_held.specs.declared.Counts.{Counts}
use Rattle.session_repair.specs.Back.{count_back}
use Rattle.session_repair.specs.declared.searching.Usable.{Usable}
use Rattle.session_repair.specs.declared.searching.Lowest.{Lowest}

-- what the searches require of the table: n, m and the lengths of messages are within the sizes (rule 13.8)
pub record Searchable (table : List ℕ) : Type 0 where
  pub long : length table ≡ places
  pub covered : (j : ℕ) → j < slots_heard → n_in table j ≤ covered_limit
  pub few : (j : ℕ) → j < slots_heard → m_in table j ≤ messages_limit
  pub part : (j i : ℕ) → j < slots_heard → i < messages_limit → message_size_in table (message_slot j i) ≤ packet_limit

-- n and m of the number at distance d, the size of its message i, and that message
abbrev pub n_at : ℕ → List ℕ → ℕ → ℕ
n_at base table d = n_in table (heard_slot_at base d)

abbrev pub m_at : ℕ → List ℕ → ℕ → ℕ
m_at base table d = m_in table (heard_slot_at base d)

abbrev pub message_size_at : ℕ → List ℕ → ℕ → ℕ → ℕ
message_size_at base table d i = message_size_in table (message_slot (heard_slot_at base d) i)

unfoldable pub message_held : ℕ → List ℕ → List ℕ → ℕ → ℕ → Message
message_held base table messages d i =
    record {
      members = members_of (kept_before + d) (n_at base table d) (m_at base table d) i;
      octets = message_in table messages (heard_slot_at base d) i;
    }

-- how many members of a message are unknown, or 0 if it has length 0 (rule 11.7)
abbrev pub missing_of : ℕ → List ℕ → ℕ → ℕ → ℕ → ℕ
missing_of size table x n m = cond (size == 0) 0 (count_back table x n m)

-- the number at distance d has a message i, and the slot is that of its first unknown member
pub record Points (base : ℕ) (table : List ℕ) (d i slot : ℕ) : Type 0 where
  pub near : d < kept_ahead
  pub low : i < m_at base table d
  pub target : (octets messages : List ℕ)
      → slot ≡ slot_at base (slice_index (unknown_members (cells_of base table octets) (message_held base table messages d i)) 0)

-- the lowest usable message of the number at distance d (rule 11.2)
abbrev pub lowest_answer : ℕ → List ℕ → ℕ → Option Lowest → List ℕ → maths.Option Message
lowest_answer base table d (Some low) messages = maths.some (message_held base table messages d low.index)
lowest_answer base table d None messages = maths.none

abbrev pub LowestPoints : ℕ → List ℕ → ℕ → Option Lowest → Type 0
LowestPoints base table d (Some low) = Points base table d low.index low.slot
LowestPoints base table d None = Unit {0}

pub record LowestFound (base : ℕ) (table : List ℕ) (d : ℕ) (r : Option Lowest) : Type 0 where
  pub answer : (octets messages : List ℕ) → length messages ≡ message_octets
      → first_usable (cells_of base table octets) (messages_of (kept_before + d) (held_in table messages (heard_slot_at base d)))
      ≡ lowest_answer base table d r messages
  pub points : LowestPoints base table d r

-- what the search of a number's messages requires: the number's slot, n and m
pub record Seeable (t : List ℕ) (at slot n m : ℕ) : Type 0 where
  pub table : Searchable t
  pub place : slot ≡ at % slots_heard
  pub covered : n ≡ n_in t slot
  pub count : m ≡ m_in t slot

-- what it promises: the answer for every base that has that number at a distance below 32
pub record LowestSeen (table : List ℕ) (at : ℕ) (r : Option Lowest) : Type 0 where
  pub found : (base d : ℕ) → d < kept_ahead → at ≡ (base + d) % numbers → LowestFound base table d r

-- the first usable message, counted from the base on (rule 11.2)
abbrev pub usable_answer : ℕ → List ℕ → Option Usable → List ℕ → maths.Option Message
usable_answer base table (Some found) messages = maths.some (message_held base table messages found.distance found.index)
usable_answer base table None messages = maths.none

abbrev pub UsablePoints : ℕ → List ℕ → Option Usable → Type 0
UsablePoints base table (Some found) = Points base table found.distance found.index found.slot
UsablePoints base table None = Unit {0}

pub record UsableFound (base : ℕ) (table : List ℕ) (r : Option Usable) : Type 0 where
  pub answer : (octets messages : List ℕ) → length messages ≡ message_octets
      → first_usable (cells_of base table octets) (held_messages (held_of base table messages)) ≡ usable_answer base table r messages
  pub points : UsablePoints base table r

-- what a message requires of its unknown members together, over a width: the exclusive or of the message and its known members (rule 14.1)
pub record AskedOctets (base : ℕ) (table octets messages : List ℕ) (d i width : ℕ) (r : List ℕ) : Type 0 where
  pub long : length r ≡ packet_limit
  pub each : (k : ℕ) → k < width
      → slice_index r k
      ≡ xor_at
      ((message_held base table messages d i).octets
      ∷ map (λ p. (cell_at (cells_of base table octets) p).octets)
      (other_members (cells_of base table octets) (message_held base table messages d i)))
      k

-- in the table only states, sizes and notes of kept numbers have changed; marks, n, m and lengths of messages are unchanged
pub record SameBeside (before after : List ℕ) : Type 0 where
  pub stays : (k : ℕ) → slots_kept + slots_kept + slots_kept ≤ k → slice_index after k ≡ slice_index before k

-- what mend sees is within the ranges, for some counts
pub record MayMend (base : ℕ) (table octets messages : List ℕ) : Type 0 where
  pub counts : Counts
  pub within : InRanges (lent base counts table octets messages)

-- one message was used, while datagram S is offered (rules 9.8 and 11.3)
pub record FilledNow (S : ℕ) (before : Lent) (d i : ℕ) (after : Lent) : Type 0 where
  pub cells : cells_of after.base after.table after.octets
      ≡ fill (filled_cell S repaired) (cells_of before.base before.table before.octets)
      (message_held before.base before.table before.messages d i)
  pub within : InRanges after
  pub beside : SameBeside before.table after.table

-- what fill promises, for all counts with which the session was within its ranges
pub record Fills (S base : ℕ) (table octets messages : List ℕ) (d i : ℕ) (new_table new_octets : List ℕ) : Type 0 where
  pub fills : (c : Counts) → InRanges (lent base c table octets messages)
      → FilledNow S (lent base c table octets messages) d i (lent base c new_table new_octets messages)

-- the view after repair: what is held is unchanged, and the kept numbers are repaired (rule 11.4)
abbrev pub repaired_view : ℕ → View → View
repaired_view S v =
    record {
      base = v.base;
      counts = v.counts;
      cells = repair (filled_cell S repaired) v.cells (held_messages v.held);
      held = v.held;
    }

-- everything that can be repaired is
pub record MendedNow (S : ℕ) (before after : Lent) : Type 0 where
  pub state : view_in after ≡ repaired_view S (view_in before)
  pub within : InRanges after
  pub beside : SameBeside before.table after.table

-- what mend promises, for all counts with which the session was within its ranges
pub record Mends (S base : ℕ) (table octets messages new_table new_octets : List ℕ) : Type 0 where
  pub mends : (c : Counts) → InRanges (lent base c table octets messages)
      → MendedNow S (lent base c table octets messages) (lent base c new_table new_octets messages)
