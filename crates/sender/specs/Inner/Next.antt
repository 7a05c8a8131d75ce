-- What the writer of the next datagram requires and promises, and the settings as what a datagram carries beside its packet
-- (rules 15.3 to 15.6). Definitions only.
use Rattle.std.specs.Prelude.{ℕ, ◌+◌, ◌≤◌, min, ◌≡◌, true, List, length}
use Rattle.datagram.specs.Carried.{Carried}
use Rattle.datagram.specs.Write.{extra_of, count_inside, datagram_octets}
use Rattle.datagram.specs.declared.kind.Kind.{Kind}
use Rattle.datagram.specs.declared.kind.Kind.TheVariants as kind
use Rattle.sender.specs.Sending.{Sending, history_kept}
use Rattle.sender.specs.Send.{packet_of, packet_inside}
use Rattle.sender.specs.Inner.Held.{Sizes, Stored}
use Rattle.sender.specs.Inner.Items.{items_from, items_in}
use Rattle.sender.specs.declared.Settings.{Settings}
use Rattle.sender.specs.declared.Settings.TheVariants as settings

-- settings as the kind of what a datagram carries, and how many: fewer than k spares if fewer packets were sent (rule 15.4)
abbrev pub kind_asked : Settings → Kind
kind_asked (settings.Spares k) = kind.Spares
kind_asked (settings.Parity n m) = kind.Parity n

abbrev pub count_of : Settings → ℕ → ℕ
count_of (settings.Spares k) sent = min k sent
count_of (settings.Parity n m) sent = m

-- the spares or messages of the next datagram
abbrev pub items_next : Settings → Sending → List (List ℕ)
items_next settings s = items_from (kind_asked settings) (count_of settings s.sent) (packet_of s.history) history_kept

-- what the datagram with this number carries
abbrev pub carried_in : ℕ → List ℕ → List ℕ → List ℕ → Kind → ℕ → Carried
carried_in number sizes o packet kind count =
    record { number = number; packet = packet; extra = extra_of kind (items_in kind count number sizes o) }

-- packet and settings are inside the sizes
pub record NextSizes (sizes packet : List ℕ) (kind : Kind) (count : ℕ) : Type 0 where
  pub lengths : Sizes sizes
  pub newest : packet_inside packet ≡ true
  pub counted : count_inside kind count ≡ true

-- how many octets the datagram takes, whatever the history's octets are
pub record NextSize (number : ℕ) (sizes packet : List ℕ) (kind : Kind) (count size : ℕ) : Type 0 where
  pub answer : (o : List ℕ) → Stored sizes o → size ≡ length (datagram_octets (carried_in number sizes o packet kind count))

pub record NextAsked (sizes o packet : List ℕ) (kind : Kind) (count : ℕ) : Type 0 where
  pub stored : Stored sizes o
  pub newest : packet_inside packet ≡ true
  pub counted : count_inside kind count ≡ true

-- and there is room
pub record NextRoom (number : ℕ) (sizes o packet : List ℕ) (kind : Kind) (count : ℕ) (out : List ℕ) : Type 0 where
  pub asked : NextAsked sizes o packet kind count
  pub room : length (datagram_octets (carried_in number sizes o packet kind count)) ≤ length out
