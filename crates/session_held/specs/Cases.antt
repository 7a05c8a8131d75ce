-- How a session lies in memory, in numbers: slots, states, and the ranges that depend on the layout (rules 9.13, 13.5, 13.9 and 13.11).
-- Definitions only.
use Rattle.std.specs.Prelude.{ℕ, ◌+◌, ◌≡◌, true, false, List, [], ◌∷◌, ◌++◌, replicate}
use Rattle.session.specs.Cells as cells
use Rattle.session.specs.View.{fresh_view}
use Rattle.session_held.specs.Slots.{kept_octets, message_octets, slot_at, heard_slot_at, message_slot}
use Rattle.session_held.specs.Table.{size_place, note_place, mark_place, n_place, m_place, message_place, places}
use Rattle.session_held.specs.Table.{state_numbered, state_of, counts_of, lent, cell_in, held_in, view_in, kept_set, heard_set, heard_dropped}
use Rattle.session_held.specs.Laid.{kept_laid, message_laid, heard_laid, lent_in_ranges}
use Rattle.session_held.specs.Promise.{fresh_table}
use Rattle.session_held.specs.declared.Counts.{Counts}
use Rattle.session_held.specs.declared.ReleaseKind.TheVariants.{Received, Spare, Repaired, Lost}

-- a table with one value at a place, and zeros before it
abbrev pub value_at : ℕ → ℕ → List ℕ
value_at place value = replicate place 0 ++ (value ∷ [])

-- a table with the size of message i in slot 0
abbrev pub message_sized : ℕ → ℕ → List ℕ
message_sized i size = value_at (288 + i) size

-- the counts of a fresh session
abbrev pub none_left : Counts
none_left = record { received = 0; spare = 0; repaired = 0; lost = 0 }

pub record SlotCases : Type 0 where
  -- a number's packet is in slot number modulo 64, its mark and messages in slot number modulo 32 (rule 9.13): place 32 of the view is the
  -- base, place 31 the number before it, and behind 65,535 comes 0
  pub base-0 : slot_at 0 32 ≡ 0
  pub before-0 : slot_at 0 31 ≡ 63
  pub base-100 : slot_at 100 32 ≡ 36
  pub behind-last : slot_at 65535 33 ≡ 0
  pub marked-100 : heard_slot_at 100 0 ≡ 4
  pub marked-behind-last : heard_slot_at 65535 1 ≡ 0
  pub first-message : message_slot 0 0 ≡ 0
  pub last-message : message_slot 31 3 ≡ 127
  -- 64 packets and 128 messages of 256 octets each (rules 1.1, 1.13 and 1.16), and a table of 416 numbers
  pub packet-octets : kept_octets ≡ 16384
  pub message-octets : message_octets ≡ 32768
  pub numbers : places ≡ 416
  -- the table has a run for each value: states, sizes and notes of 64 slots, marks, n and m of 32 slots, and the sizes of 128 messages
  pub last-size : size_place 63 ≡ 127
  pub last-note : note_place 63 ≡ 191
  pub last-mark : mark_place 31 ≡ 223
  pub last-n : n_place 31 ≡ 255
  pub last-m : m_place 31 ≡ 287
  pub last-message-size : message_place 127 ≡ 415
  -- a number set to state 1, size 2 and note 3, one marked with n = 2 and m = 3, and one whose mark and messages are dropped (rule 12.7)
  pub kept : kept_set (replicate 416 0) 63 1 2 3
      ≡ replicate 63 0 ++ (1 ∷ replicate 63 0 ++ (2 ∷ replicate 63 0 ++ (3 ∷ replicate 224 0)))
  pub heard : heard_set (replicate 416 0) 31 1 2 3
      ≡ replicate 223 0 ++ (1 ∷ replicate 31 0 ++ (2 ∷ replicate 31 0 ++ (3 ∷ replicate 128 0)))
  pub dropped : heard_dropped (replicate 416 1) 31
      ≡ replicate 223 1 ++ (0 ∷ replicate 31 1 ++ (0 ∷ replicate 31 1 ++ (0 ∷ replicate 124 1 ++ (0 ∷ 0 ∷ 0 ∷ 0 ∷ []))))
  -- a fresh table: the slots 32 to 63 are blank (rule 9.3)
  pub fresh : fresh_table ≡ replicate 32 0 ++ replicate 32 4 ++ replicate 352 0

pub record StateCases : Type 0 where
  -- the numbers that encode the states (rule 13.11)
  pub state-0 : state_numbered 0 ≡ cells.unknown
  pub state-1 : state_numbered 1 ≡ cells.received
  pub state-2 : state_numbered 2 ≡ cells.spare
  pub state-3 : state_numbered 3 ≡ cells.repaired
  pub state-4 : state_numbered 4 ≡ cells.blank
  -- the kinds in which a number leaves (rule 9.10)
  pub as-received : state_of Received ≡ cells.received
  pub as-spare : state_of Spare ≡ cells.spare
  pub as-repaired : state_of Repaired ≡ cells.repaired
  pub as-lost : state_of Lost ≡ cells.unknown
  pub counts : counts_of (record { received = 1; spare = 20; repaired = 300; lost = 4000 })
      ≡ record { received = 1; spare = 20; repaired = 300; lost = 4000 }
  -- slot 0 has state 3, size 2 and note 7 (rules 9.2 and 9.5)
  pub cell : cell_in (3 ∷ replicate 63 0 ++ (2 ∷ replicate 63 0 ++ (7 ∷ []))) (0x06 ∷ 0x00 ∷ []) 0
      ≡ record { state = cells.repaired; octets = 0x06 ∷ 0x00 ∷ []; note = 7 }
  -- slot 0 is marked, with n = 2 and one message of two octets (rule 9.4)
  pub held : held_in (replicate 192 0 ++ (1 ∷ replicate 31 0 ++ (2 ∷ replicate 31 0 ++ (1 ∷ replicate 31 0 ++ (2 ∷ [])))))
      (0xC6 ∷ 0x01 ∷ []) 0
      ≡ record { accepted = true; n = 2; messages = (0xC6 ∷ 0x01 ∷ []) ∷ [] }

pub record LaidCases : Type 0 where
  -- a number over 4 for a state is outside the ranges (rule 13.11)
  pub state-4 : kept_laid (value_at 0 4) [] 0 ≡ true
  pub state-5 : kept_laid (value_at 0 5) [] 0 ≡ false
  -- so is a length over 256 (rule 13.4)
  pub size-256 : kept_laid (value_at 64 256) [] 0 ≡ true
  pub size-257 : kept_laid (value_at 64 257) [] 0 ≡ false
  -- octets past a length are zero, up to the end of the slot (rule 13.5)
  pub no_more : kept_laid (value_at 64 1) (0x07 ∷ 0x00 ∷ []) 0 ≡ true
  pub one_more : kept_laid (value_at 64 1) (0x07 ∷ 0x01 ∷ []) 0 ≡ false
  pub at-the-end : kept_laid (value_at 64 1) (value_at 255 0x01) 0 ≡ false
  pub next-slot : kept_laid (value_at 64 1) (value_at 256 0x01) 0 ≡ true
  pub of-that-slot : kept_laid (value_at 64 1) (value_at 256 0x01) 1 ≡ false
  -- message places past m have length 0 (rule 13.9)
  pub size-within-m : message_laid (message_sized 3 1) [] 0 4 3 ≡ true
  pub size-past-m : message_laid (message_sized 3 1) [] 0 3 3 ≡ false
  pub size-with-none : message_laid (message_sized 0 1) [] 0 0 0 ≡ false
  -- a message has at most 256 octets (rule 13.8), and zeros past them, past m too (rule 13.5)
  pub message-256 : message_laid (message_sized 0 256) [] 0 1 0 ≡ true
  pub message-257 : message_laid (message_sized 0 257) [] 0 1 0 ≡ false
  pub message-more : message_laid (message_sized 0 1) (0x07 ∷ 0x01 ∷ []) 0 1 0 ≡ false
  pub octets-past-m : message_laid [] (0x01 ∷ []) 0 0 0 ≡ false
  -- a mark is 0 or 1 (rule 13.11), and there are at most 4 messages (rule 13.8)
  pub mark-1 : heard_laid (value_at 192 1) [] 0 ≡ true
  pub mark-2 : heard_laid (value_at 192 2) [] 0 ≡ false
  pub m-4 : heard_laid (value_at 256 4) [] 0 ≡ true
  pub m-5 : heard_laid (value_at 256 5) [] 0 ≡ false
  pub size-past-3 : heard_laid (message_sized 3 1) [] 0 ≡ false

-- a whole session: a fresh one, and one that is wrong in a packet's slot, in a message's slot, or in its base (rules 13.1 and 13.5)
pub record WholeCases : Type 0 where
  pub fresh : view_in (lent 0 none_left fresh_table [] []) ≡ fresh_view
  pub right : lent_in_ranges (lent 0 none_left fresh_table [] []) ≡ true
  pub packet-octet : lent_in_ranges (lent 0 none_left fresh_table (0x01 ∷ []) []) ≡ false
  pub message-octet : lent_in_ranges (lent 0 none_left fresh_table [] (0x01 ∷ [])) ≡ false
  pub base : lent_in_ranges (lent 1 none_left fresh_table [] []) ≡ false
