-- What an honest sender's messages are (rule 15.14). Its row of packets is given by the places of the view: the packet of each place, empty
-- for a number before the first (rule 4.14). Definitions only.
use Rattle.std.specs.Prelude.{ℕ, ◌*◌, ◌≤◌, ◌<◌, ◌≡◌, length, get_or}
use mathlib.Core.List.{List, [], map, Memᴰ as Among}
use Rattle.octets.specs.ExclusiveOr.{exclusive_or, longest}
use Rattle.session.specs.Cells.{Cell, cell_at}
use Rattle.session.specs.Repair.{Message}
use Rattle.session.specs.Reached.{Known}
use Rattle.session.specs.Held.{Held, message_at}

-- a sender's message is the exclusive or of its members, shorter ones padded with zeros to the longest (rule 4.13)
abbrev pub message_over : List (List ℕ) → List ℕ
message_over packets = exclusive_or (longest packets) packets

-- an honest message, with all its members among the first `size` places
pub record HonestMessage (row : ℕ → List ℕ) (size : ℕ) (message : Message) : Type 0 where
  pub sum : message.octets ≡ message_over (map row message.members)
  pub inside : (p : ℕ) → Among p message.members → p < size

abbrev pub HonestMessages : (ℕ → List ℕ) → ℕ → List Message → Type 0
HonestMessages row size messages = (message : Message) → Among message messages → HonestMessage row size message

-- an honest held datagram: its reach is in view, and each message is over its own members (rules 4.12 and 4.13)
pub record HonestHeld (row : ℕ → List ℕ) (S : ℕ) (held : Held) : Type 0 where
  pub reach : held.n * length held.messages ≤ S
  pub sums : (i : ℕ) → i < length held.messages
      → get_or held.messages i [] ≡ message_over (map row (message_at S held i).members)

-- x is y, or y with zeros at the end: x is at least as long, and both have the same octet at each place
pub record UpToZeros (x y : List ℕ) : Type 0 where
  pub long : length y ≤ length x
  pub same : (k : ℕ) → get_or x k 0 ≡ get_or y k 0

-- every known number in view equals the sender's packet, except for zeros at the end (rule 28.9)
abbrev pub TrueCells : (ℕ → List ℕ) → List Cell → Type 0
TrueCells row cells = (p : ℕ) → p < length cells → Known cells p → UpToZeros (cell_at cells p).octets (row p)
