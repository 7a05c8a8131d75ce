-- What the writers of spares and messages require and promise (rules 4.5, 4.12 to 4.14). The size of each follows from the sizes
-- alone, whatever the octets are, so the code knows the room before it writes anything (rule 2.33). Definitions only.
use Rattle.std.specs.Prelude.{ℕ, suc, ◌+◌, ◌-◌, ◌*◌, ◌≤◌, ◌<◌, ◌≡◌, true, List, [], map, length, get_or, take}
use Rattle.octets.specs.ExclusiveOr.{exclusive_or, longest}
use Rattle.datagram.specs.Sizes.{packet_limit, spares_limit, covered_limit, messages_limit}
use Rattle.datagram.specs.Write.{count_inside, items_octets}
use Rattle.datagram.specs.Inner.Heads.{item_size}
use Rattle.datagram.specs.declared.kind.Kind.{Kind}
use Rattle.datagram.specs.declared.kind.Kind.TheVariants as kind
use Rattle.session.specs.Members.{members_of}
use Rattle.session.specs.Honest.{message_over}
use Rattle.sender.specs.Sending.{history_kept}
use Rattle.sender.specs.Carries.{spares_from, messages_from}
use Rattle.sender.specs.Send.{packet_of}
use Rattle.sender.specs.Sender.{history_slot, length_in, history_in}
use Rattle.sender.specs.Inner.Held.{Stored}

-- ---- messages

-- message i of m over n packets: n and m are inside the sizes (rules 1.4 and 1.5)
pub record Reach (n m i : ℕ) : Type 0 where
  pub covered : n ≤ covered_limit
  pub messages : m ≤ messages_limit
  pub one : i < m

-- its members, in the datagram with this number (rule 4.12)
abbrev pub members_in : ℕ → List ℕ → List ℕ → ℕ → ℕ → ℕ → List (List ℕ)
members_in number sizes o n m i = map (packet_of (history_in number sizes o)) (members_of history_kept n m i)

abbrev pub parity_in : ℕ → List ℕ → List ℕ → ℕ → ℕ → ℕ → List ℕ
parity_in number sizes o n m i = message_over (members_in number sizes o n m i)

pub record MessageSize (number : ℕ) (sizes : List ℕ) (n m i size : ℕ) : Type 0 where
  pub small : size ≤ packet_limit
  pub answer : (o : List ℕ) → Stored sizes o → size ≡ longest (members_in number sizes o n m i)

-- the exclusive or of the members over a size, at the front of `sum` (rule 4.13)
pub record MessageSum (number : ℕ) (o : List ℕ) (n m i size : ℕ) (sum : List ℕ) : Type 0 where
  pub long : length sum ≡ packet_limit
  pub answer : (sizes : List ℕ) → Stored sizes o → take size sum ≡ exclusive_or size (members_in number sizes o n m i)

-- the message is one of the m, and there is room for it
pub record MessageAsked (number : ℕ) (sizes o : List ℕ) (n m i : ℕ) (out : List ℕ) : Type 0 where
  pub reach : Reach n m i
  pub stored : Stored sizes o
  pub room : item_size (length (parity_in number sizes o n m i)) ≤ length out

-- ---- spares

-- the spare after j others (rule 4.5)
abbrev pub spare_in : ℕ → List ℕ → List ℕ → ℕ → List ℕ
spare_in number sizes o j = packet_of (history_in number sizes o) (history_kept - suc j)

pub record SpareSize (number : ℕ) (sizes : List ℕ) (j size : ℕ) : Type 0 where
  pub small : size ≤ packet_limit
  pub answer : size ≡ length_in sizes (history_slot number (history_kept - suc j))

pub record SpareAsked (number : ℕ) (sizes o : List ℕ) (j : ℕ) (out : List ℕ) : Type 0 where
  pub near : j < history_kept
  pub stored : Stored sizes o
  pub room : item_size (length (spare_in number sizes o j)) ≤ length out

-- ---- both
abbrev pub items_from : Kind → ℕ → (ℕ → List ℕ) → ℕ → List (List ℕ)
items_from kind.Spares count row S = spares_from count row S
items_from (kind.Parity n) count row S = messages_from n count row S

-- the spares or messages of the datagram with this number
abbrev pub items_in : Kind → ℕ → ℕ → List ℕ → List ℕ → List (List ℕ)
items_in kind count number sizes o = items_from kind count (packet_of (history_in number sizes o)) history_kept

abbrev pub item_in : Kind → ℕ → ℕ → List ℕ → List ℕ → ℕ → List ℕ
item_in kind count number sizes o j = get_or (items_in kind count number sizes o) j []

pub record ItemSize (kind : Kind) (count number : ℕ) (sizes : List ℕ) (j size : ℕ) : Type 0 where
  pub small : size ≤ packet_limit
  pub answer : (o : List ℕ) → Stored sizes o → size ≡ length (item_in kind count number sizes o j)

-- item j is one of those that the settings ask for
pub record ItemOf (kind : Kind) (count j : ℕ) : Type 0 where
  pub counted : count_inside kind count ≡ true
  pub below : j < count

-- and there is room for it
pub record ItemAsked (kind : Kind) (count number : ℕ) (sizes o : List ℕ) (j : ℕ) (out : List ℕ) : Type 0 where
  pub one : ItemOf kind count j
  pub stored : Stored sizes o
  pub room : item_size (length (item_in kind count number sizes o j)) ≤ length out

pub record ItemsSize (kind : Kind) (count number : ℕ) (sizes : List ℕ) (size : ℕ) : Type 0 where
  pub small : size ≤ spares_limit * (packet_limit + 2)
  pub answer : (o : List ℕ) → Stored sizes o → size ≡ length (items_octets (items_in kind count number sizes o))

pub record ItemsAsked (kind : Kind) (count number : ℕ) (sizes o out : List ℕ) : Type 0 where
  pub counted : count_inside kind count ≡ true
  pub stored : Stored sizes o
  pub room : length (items_octets (items_in kind count number sizes o)) ≤ length out
