-- The lines of an image as the code writes them (rules 20.2 to 20.7): what the table holds of the number at a place of the view, the text
-- of its line, and how long that is. The text is proved equal to the image that `image` defines. Definitions only.
use Rattle.std.specs.Prelude.{ℕ, ◌+◌, ◌-◌, ◌*◌, ◌/◌, ◌%◌, ◌≤◌, ◌<◌, ◌≡◌, false, cond, List, [], ◌∷◌, ◌++◌, length, ltb, eqb}
use Rattle.octets.specs.Place.{tab}
use Rattle.format.specs.Format.{flag_bit}
use Rattle.datagram.specs.Sizes.{packet_limit, messages_limit}
use Rattle.datagram.specs.Write.{item_octets, sum_of}
use Rattle.datagram.specs.Inner.Heads.{item_size}
use Rattle.session_slots.specs.Store.{part}
use Rattle.session.specs.Cells.{kept_before}
use Rattle.session_held.specs.Slots.{slots_kept, slots_heard, slot_at, heard_slot_at, message_slot}
use Rattle.session_held.specs.Table.{places, last_state, state_in, size_in, note_in, mark_in, n_in, m_in, message_size_in, message_in}
use Rattle.session_held.specs.declared.Counts.{Counts}
use Rattle.line.specs.Hex.{hex_of}
use Rattle.line.specs.Lines.{line_feed}
use Rattle.image.specs.Parts.{high_first_octets}
use Rattle.image.specs.Octets.{in_row}
use Rattle.image.specs.Image.{line_size}
use Rattle.image_writer.specs.declared.rows.Row.{Row}

-- there is room for a text from a place on
pub record Room (text old : List ℕ) (at : ℕ) : Type 0 where
  pub fits : at + length text ≤ length old

-- what follows for the table of a session within its ranges
pub record TableFits (table : List ℕ) : Type 0 where
  pub long : length table ≡ places
  pub state : (i : ℕ) → i < slots_kept → state_in table i ≤ last_state
  pub size : (i : ℕ) → i < slots_kept → size_in table i ≤ packet_limit
  pub few : (j : ℕ) → j < slots_heard → m_in table j ≤ messages_limit
  pub part : (j i : ℕ) → j < slots_heard → i < messages_limit → message_size_in table (message_slot j i) ≤ packet_limit

-- ---- what the table holds of the number at place p of the view; before the base accepted, n and m are 00 (rule 20.7)
abbrev pub row_before : ℕ → Row
row_before slot = record { slot = slot; heard = 0; accepted = false; n = 0; m = 0 }

abbrev pub row_ahead : List ℕ → ℕ → ℕ → Row
row_ahead table slot heard =
    record { slot = slot; heard = heard; accepted = eqb (mark_in table heard) 1; n = n_in table heard; m = m_in table heard }

unfoldable pub image_row_at : ℕ → List ℕ → ℕ → Row
image_row_at base table p =
    cond (ltb p kept_before) (row_before (slot_at base p)) (row_ahead table (slot_at base p) (heard_slot_at base (p - kept_before)))

-- a row names slots that are there
pub record RowFits (row : Row) : Type 0 where
  pub slot : row.slot < slots_kept
  pub heard : row.heard < slots_heard
  pub few : row.m ≤ messages_limit

pub record ImageRowTold (base : ℕ) (table : List ℕ) (p : ℕ) (r : Row) : Type 0 where
  pub answer : r ≡ image_row_at base table p
  pub fits : RowFits r

-- ---- its line (rule 20.4)
-- state, accepted octet, note; packet
abbrev pub kept_front : List ℕ → Row → List ℕ
kept_front table row =
    state_in table row.slot % 256 ∷ flag_bit row.accepted ∷ note_in table row.slot / 256 % 256 ∷ note_in table row.slot % 256 ∷ []

abbrev pub kept_text : List ℕ → List ℕ → Row → List ℕ
kept_text table octets row = hex_of (kept_front table row) ++ hex_of (item_octets (part octets row.slot (size_in table row.slot)))

-- n and m
abbrev pub count_octets : Row → List ℕ
count_octets row = row.n % 256 ∷ row.m % 256 ∷ []

-- texts one after the other
abbrev pub all_texts : ℕ → (ℕ → List ℕ) → List ℕ
all_texts n text = in_row (λ x. x) (tab n text)

-- the first m messages of a slot
abbrev pub message_text : List ℕ → List ℕ → ℕ → ℕ → List ℕ
message_text table messages heard i = hex_of (item_octets (message_in table messages heard i))

abbrev pub messages_text : List ℕ → List ℕ → ℕ → ℕ → List ℕ
messages_text table messages heard m = all_texts m (message_text table messages heard)

unfoldable pub row_text : List ℕ → List ℕ → List ℕ → Row → List ℕ
row_text table octets messages row =
    kept_text table octets row
    ++ (hex_of (count_octets row) ++ (messages_text table messages row.heard row.m ++ (line_feed ∷ [])))

-- all of them
abbrev pub rows_text : ℕ → List ℕ → List ℕ → List ℕ → List ℕ
rows_text base table octets messages = all_texts slots_kept (λ p. row_text table octets messages (image_row_at base table p))

-- the first line (rule 20.2): the version octet, base, counts
abbrev pub first_text : ℕ → ℕ → Counts → List ℕ
first_text octet base counts =
    hex_of (octet ∷ base / 256 % 256 ∷ base % 256 ∷ [])
    ++ (hex_of (high_first_octets 4 counts.received)
    ++ (hex_of (high_first_octets 4 counts.spare)
    ++ (hex_of (high_first_octets 4 counts.repaired) ++ (hex_of (high_first_octets 4 counts.lost) ++ (line_feed ∷ [])))))

-- ---- how long it is
abbrev pub messages_size : List ℕ → ℕ → ℕ → ℕ
messages_size table heard m = sum_of (tab m (λ i. 2 * item_size (message_size_in table (message_slot heard i))))

abbrev pub row_size : List ℕ → Row → ℕ
row_size table row = line_size (6 + item_size (size_in table row.slot)) + messages_size table row.heard row.m

abbrev pub rows_size : ℕ → List ℕ → ℕ
rows_size base table = sum_of (tab slots_kept (λ p. row_size table (image_row_at base table p)))

-- a size that is returned, and the most that it can be
pub record SizeWithin (size most r : ℕ) : Type 0 where
  pub answer : r ≡ size
  pub few : r ≤ most
