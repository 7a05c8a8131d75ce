-- What the functions promise that find the packet and the messages in the octets of a number's line (rule 20.6). Definitions only.
use Rattle.std.specs.Prelude.{◌≡◌, ℕ, List, Option, Some, None, take, ◌≢◌}
use Rattle.length.specs.Answers.{done}
use Rattle.datagram.specs.Sizes.{message_least}
use Rattle.datagram.specs.Read.{item_at, items_at, end_of}
use Rattle.datagram.specs.declared.reader.Part.{Part}
use Rattle.image_reader.specs.declared.items.Items.{Items}

-- a packet or message of at most `limit` octets at a place, or none
abbrev pub NoItem : ℕ → List ℕ → ℕ → Type 0
NoItem limit s at = (p : Part) → item_at message_least limit s at ≢ done p

abbrev pub ItemCase : ℕ → List ℕ → ℕ → Option Part → Type 0
ItemCase limit s at (Some p) = item_at message_least limit s at ≡ done p
ItemCase limit s at None = NoItem limit s at

pub record ItemTold (limit : ℕ) (s : List ℕ) (at : ℕ) (r : Option Part) : Type 0 where
  pub answer : ItemCase limit s at r

-- `count` of them, one after the other, and where the last one ends
pub record ItemsRead (limit : ℕ) (s : List ℕ) (first count end : ℕ) (parts : List Part) : Type 0 where
  pub read : items_at message_least limit s first count ≡ done parts
  pub ends : end_of first parts ≡ end

abbrev pub ItemsCase : ℕ → List ℕ → ℕ → ℕ → Option Items → Type 0
ItemsCase limit s first count (Some x) = ItemsRead limit s first count x.end (take count x.parts)
ItemsCase limit s first count None = (parts : List Part) → items_at message_least limit s first count ≢ done parts

pub record ItemsTold (limit : ℕ) (s : List ℕ) (first count : ℕ) (r : Option Items) : Type 0 where
  pub answer : ItemsCase limit s first count r
