-- The claims of an honest sender and of chains of sends are not empty (rules 15.14 and 15.15): two packets and their datagrams, in octets,
-- and a first send, whatever it returns. Statements only.
use Rattle.std.specs.Prelude.{ℕ, ◌≤◌, ◌≡◌, List, [], ◌∷◌, length, take, Ok}
use Rattle.sender.specs.Promise.{SenderMade, Sends}
use Rattle.sender.specs.Honest.{HonestSender}
use Rattle.sender.specs.Run.{Run}
use Rattle.sender.specs.declared.Sender.{Sender}
use Rattle.sender.specs.declared.Sent.{Sent}
use Rattle.sender.specs.declared.Settings.TheVariants as settings

abbrev pub first_packet : List ℕ
first_packet = 0x06 ∷ []

abbrev pub first_datagram : List ℕ
first_datagram = 0x00 ∷ 0x00 ∷ 0x01 ∷ 0x06 ∷ 0x00 ∷ 0x00 ∷ []

-- the second packet is `C0 01`, and its datagram has the first as a spare
abbrev pub second_packet : List ℕ
second_packet = 0xC0 ∷ 0x01 ∷ []

abbrev pub second_datagram : List ℕ
second_datagram = 0x00 ∷ 0x01 ∷ 0x02 ∷ 0xC0 ∷ 0x01 ∷ 0x00 ∷ 0x01 ∷ 0x01 ∷ 0x06 ∷ []

-- a send that was done as the first of a chain
pub record FirstSend (r : Sent) (new : List ℕ) : Type 0 where
  pub size : ℕ
  pub answer : r.answer ≡ Ok size
  pub octets : take size new ≡ first_datagram
  pub run : Run r.sender (first_packet ∷ []) (first_datagram ∷ [])
  pub honest : HonestSender (first_packet ∷ []) (first_datagram ∷ [])

pub record Instance : Type 0 where
  pub honest : HonestSender (first_packet ∷ second_packet ∷ []) (first_datagram ∷ second_datagram ∷ [])
  -- a fresh session, k = 8, and a buffer large enough for any datagram
  pub chain : {s : Sender} {old new : List ℕ} {r : Sent} → SenderMade s → 2400 ≤ length old
      → Sends s (settings.Spares 8) first_packet old new r → FirstSend r new
