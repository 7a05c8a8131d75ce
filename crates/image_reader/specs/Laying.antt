-- How the numbers that were read are stored in a session's table and stores, slot by slot; numbers not read yet are unknown and hold
-- nothing. And what the functions promise that store them there. Definitions only.
use Rattle.std.specs.Prelude.{◌≡◌, ℕ, ◌+◌, ◌<◌, ◌≤◌, Bool, true, List, [], ◌∷◌, ◌++◌, map, length, take, ◌≢◌, slice_index, slice_index_or, slice_set}
use Rattle.datagram.specs.Sizes.{packet_limit, message_least, message_limit, messages_limit}
use Rattle.datagram.specs.Read.{octets_of}
use Rattle.datagram.specs.Promise.{nowhere}
use Rattle.datagram.specs.Claims.{PartInside}
use Rattle.datagram.specs.declared.reader.Part.{Part}
use Rattle.format.specs.Format.{flag_bit}
use Rattle.session_slots.specs.Store.{part, pasted, zeros_past}
use Rattle.session.specs.Cells.{Cell, unknown_cell, kept_before, kept_ahead, kept_numbers}
use Rattle.session.specs.Held.{Held, nothing_held}
use Rattle.session_held.specs.Slots.{slots_heard, kept_octets, message_octets, slot_at, heard_slot_at, message_slot}
use Rattle.session_held.specs.Table.{places, last_state, state_numbered, message_place, state_in, size_in, note_in, mark_in, n_in, m_in}
use Rattle.session_held.specs.Table.{message_size_in}
use Rattle.session_held.specs.Table.{kept_set}
use Rattle.image.specs.Layout as layout
use Rattle.image.specs.Layout.{from_base}
use Rattle.image_reader.specs.Number.{number_by, parts_of, NumberIs}
use Rattle.image_reader.specs.declared.number.Number.{Number}

-- ---- slots
-- slot i of kept numbers holds this one
pub record KeptIs (table kept : List ℕ) (i : ℕ) (c : Cell) : Type 0 where
  pub last : state_in table i ≤ last_state
  pub state : state_numbered (state_in table i) ≡ c.state
  pub size : size_in table i ≡ length c.octets
  pub note : note_in table i ≡ c.note
  pub fits : length c.octets ≤ packet_limit
  pub octets : part kept i (length c.octets) ≡ c.octets
  pub past : zeros_past kept i (length c.octets) ≡ true

-- message slot k holds this message
pub record MessageIs (table messages : List ℕ) (k : ℕ) (message : List ℕ) : Type 0 where
  pub size : message_size_in table k ≡ length message
  pub fits : length message ≤ packet_limit
  pub octets : part messages k (length message) ≡ message
  pub past : zeros_past messages k (length message) ≡ true

-- the message slots of slot j of numbers from the base on hold these messages, and those past them are empty
abbrev pub MessagesAre : List ℕ → List ℕ → ℕ → List (List ℕ) → Type 0
MessagesAre table messages j these = (i : ℕ) → i < messages_limit → MessageIs table messages (message_slot j i) (slice_index_or these i [])

-- slot j of numbers from the base on holds this mark, n and messages
pub record HeldIs (table heard : List ℕ) (j : ℕ) (h : Held) : Type 0 where
  pub mark : mark_in table j ≡ flag_bit h.accepted
  pub n : n_in table j ≡ h.n
  pub m : m_in table j ≡ length h.messages
  pub few : length h.messages ≤ messages_limit
  pub messages : MessagesAre table heard j h.messages

-- ---- a session with that base, of which `rows` are the numbers read so far, from 32 before the base upward (rule 20.3)
abbrev pub not_yet : layout.Number
not_yet = record { cell = unknown_cell; held = nothing_held }

-- the lengths of table and stores
pub record Lengths (entries kept heard : List ℕ) : Type 0 where
  pub table : length entries ≡ places
  pub octets : length kept ≡ kept_octets
  pub messages : length heard ≡ message_octets

pub record Filled (base : ℕ) (rows : List layout.Number) (table octets messages : List ℕ) : Type 0 where
  pub sized : Lengths table octets messages
  pub kept : (p : ℕ) → p < kept_numbers → KeptIs table octets (slot_at base p) (slice_index_or rows p not_yet).cell
  pub held : (d : ℕ) → d < kept_ahead → HeldIs table messages (heard_slot_at base d) (slice_index_or rows (kept_before + d) not_yet).held

-- ---- what the functions promise
-- the octets of the part at the front of the slot, and how many they are
pub record PartLaid (slot : ℕ) (s : List ℕ) (p : Part) (old new : List ℕ) (r : ℕ) : Type 0 where
  pub size : r ≡ length (octets_of s p)
  pub octets : new ≡ pasted old slot (octets_of s p)

pub record KeptLaid (slot state note : ℕ) (s : List ℕ) (p : Part) (entries kept new_entries new_kept : List ℕ) : Type 0 where
  pub table : new_entries ≡ kept_set entries slot state (length (octets_of s p)) note
  pub octets : new_kept ≡ pasted kept slot (octets_of s p)

pub record MessageLaid (slot : ℕ) (s : List ℕ) (p : Part) (entries messages new_entries new_messages : List ℕ) : Type 0 where
  pub table : new_entries ≡ slice_set entries (message_place slot) (length (octets_of s p))
  pub octets : new_messages ≡ pasted messages slot (octets_of s p)

-- the messages are few enough, and each is a part of the line within the sizes
pub record MessagesFit (s : List ℕ) (parts : List Part) (count : ℕ) : Type 0 where
  pub few : count ≤ messages_limit
  pub there : count ≤ length parts
  pub each : (i : ℕ) → i < count → PartInside message_least message_limit s (slice_index_or parts i nowhere)

-- `count` messages are stored in slots that held none; the table before the messages' sizes and the messages of other numbers are unchanged
pub record MessagesLaid (j : ℕ) (s : List ℕ) (parts : List Part) (count : ℕ) (table messages new_table new_messages : List ℕ) : Type 0 where
  pub long : length new_table ≡ length table
  pub octets : length new_messages ≡ length messages
  pub laid : MessagesAre table messages j [] → MessagesAre new_table new_messages j (map (octets_of s) (take count parts))
  pub others : (e : ℕ) → e < slots_heard → (e ≢ j) → (these : List (List ℕ)) → MessagesAre table messages e these
      → MessagesAre new_table new_messages e these
  pub before : (k : ℕ) → k < message_place 0 → slice_index new_table k ≡ slice_index table k

-- a line that was read, of a packet and messages that a slot can hold
pub record LineFits (ahead : Bool) (s : List ℕ) (r : Number) : Type 0 where
  pub limit : ℕ
  pub most : limit ≤ packet_limit
  pub read : NumberIs limit ahead s (parts_of r)
  pub counted : length (take r.m r.parts) ≡ r.m

-- one number more is stored
pub record LaysNumber (base : ℕ) (ahead : Bool) (k : ℕ) (s : List ℕ) (r : Number)
    (table octets messages new_table new_octets new_messages : List ℕ) : Type 0 where
  pub sized : Lengths new_table new_octets new_messages
  pub lays : (rows : List layout.Number) → length rows ≡ from_base ahead kept_before + k → Filled base rows table octets messages
      → Filled base (rows ++ (number_by s (parts_of r) ∷ [])) new_table new_octets new_messages
