-- The messages of an accepted datagram, written to the slot of its number (rule 10.10): their sizes to the table, their octets to the
-- store. All is stated by slots, without the base. Definitions only.
use Rattle.std.specs.Prelude.{ℕ, ◌≤◌, ◌<◌, ◌≡◌, true, List, length, get_or}
use Rattle.datagram.specs.Sizes.{packet_limit}
use Rattle.session_slots.specs.Store.{HasSlot, part, zeros_past}
use Rattle.session_held.specs.Slots.{message_slot, Apart}
use Rattle.session_held.specs.Table.{message_place, message_size_in}

-- place k of the table holds no size of the first m messages of slot j
abbrev pub NoSize : ℕ → ℕ → ℕ → Type 0
NoSize j m k = (i : ℕ) → i < m → k ≡ message_place (message_slot j i) → ⊥

-- the first m messages of slot j have the sizes of the given ones, and every other place of the table is unchanged
pub record SizesLaid (j m : ℕ) (messages : ℕ → List ℕ) (old new : List ℕ) : Type 0 where
  pub long : length new ≡ length old
  pub here : (i : ℕ) → i < m → message_place (message_slot j i) < length old
      → message_size_in new (message_slot j i) ≡ length (messages i)
  pub other : (k : ℕ) → NoSize j m k → get_or new k 0 ≡ get_or old k 0

-- the first m messages of slot j are the given ones, with zeros past them if the slot had only zeros, and every other slot is unchanged
pub record OctetsLaid (j m : ℕ) (messages : ℕ → List ℕ) (old new : List ℕ) : Type 0 where
  pub long : length new ≡ length old
  pub here : (i : ℕ) → i < m → part new (message_slot j i) (length (messages i)) ≡ messages i
  pub past : (i : ℕ) → i < m → zeros_past old (message_slot j i) 0 ≡ true
      → zeros_past new (message_slot j i) (length (messages i)) ≡ true
  pub parts : (k n : ℕ) → HasSlot k old → n ≤ packet_limit → Apart j m k → part new k n ≡ part old k n
  pub zeros : (k n : ℕ) → Apart j m k → zeros_past new k n ≡ zeros_past old k n
