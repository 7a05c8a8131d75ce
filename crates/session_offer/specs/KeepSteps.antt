-- What the inner functions of `kept` require and promise: a part of a datagram is written to a slot, and messages to their slots one after
-- the other. Definitions only.
use Rattle.std.specs.Prelude.{◌≡◌, ℕ, ◌<◌, ◌≤◌, List, length, slice_index_or}
use Rattle.datagram.specs.Sizes.{message_least, message_limit, messages_limit}
use Rattle.datagram.specs.Read.{octets_of}
use Rattle.datagram.specs.Promise.{nowhere}
use Rattle.datagram.specs.Claims.{PartInside}
use Rattle.datagram.specs.declared.reader.Part.{Part}
use Rattle.session_slots.specs.Store.{pasted}
use Rattle.session_held.specs.Heard.{SizesLaid, OctetsLaid}

-- what put_part promises: the octets of the part are at the front of the slot, and it returns how many they are
pub record PartPut (slot : ℕ) (s : List ℕ) (p : Part) (old new : List ℕ) (r : ℕ) : Type 0 where
  pub size : r ≡ length (octets_of s p)
  pub octets : new ≡ pasted old slot (octets_of s p)

-- item i, and its octets
abbrev pub part_at : List Part → ℕ → Part
part_at items i = slice_index_or items i nowhere

abbrev pub part_octets : List ℕ → List Part → ℕ → List ℕ
part_octets s items = λ i. octets_of s (part_at items i)

-- the messages are few enough, and each is a part of the octets s within the sizes (rules 1.4 and 1.7)
pub record Fit (s : List ℕ) (items : List Part) (count : ℕ) : Type 0 where
  pub few : count ≤ messages_limit
  pub each : (i : ℕ) → i < count → PartInside message_least message_limit s (part_at items i)

-- what lay promises: the first `count` messages of slot j are the items
pub record ItemsLaid (s : List ℕ) (j : ℕ) (items : List Part) (count : ℕ) (table messages new_table new_messages : List ℕ) : Type 0 where
  pub sizes : SizesLaid j count (part_octets s items) table new_table
  pub octets : OctetsLaid j count (part_octets s items) messages new_messages
