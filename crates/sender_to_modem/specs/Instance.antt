-- The theorem is not empty: four packets with two spares, of which the second and the third datagram are lost (rule 23.3). Statements
-- only.
use Rattle.std.specs.Prelude.{ℕ, ◌-◌, ◌≡◌, List, [], ◌∷◌, ◌++◌, replicate}
use Rattle.length.specs.Answers.{done}
use Rattle.session.specs.Cells.{received, spare}
use Rattle.session_held.specs.Table.{view_of}
use Rattle.session_held.specs.declared.Session.{Session}
use Rattle.sender.specs.Sending.{Sending, history_kept}
use Rattle.sender.specs.Send.{datagram_to_send}
use Rattle.sender.specs.declared.Sender.{Sender}
use Rattle.sender.specs.declared.Settings.TheVariants as settings
use Rattle.sender_to_modem.specs.Marks.{Mark, arrives, lost, NeverMoreInARow, LastArrives}
use Rattle.sender_to_modem.specs.Transfer.{delivered_as, Transfer, Ran}
use Rattle.sender_to_modem.specs.Host.{Hosted, Transferred}

abbrev pub four_marks : List Mark
four_marks = arrives ∷ lost ∷ lost ∷ arrives ∷ []

abbrev pub first_packet : List ℕ
first_packet = 0x06 ∷ []

abbrev pub second_packet : List ℕ
second_packet = 0xC0 ∷ 0x01 ∷ 0x80 ∷ 0x00 ∷ 0x00 ∷ 0x55 ∷ []

abbrev pub third_packet : List ℕ
third_packet = 0x04 ∷ []

abbrev pub fourth_packet : List ℕ
fourth_packet = 0xC0 ∷ 0x01 ∷ 0x80 ∷ 0x00 ∷ 0x00 ∷ 0xAA ∷ []

abbrev pub four_packets : List (List ℕ)
four_packets = first_packet ∷ second_packet ∷ third_packet ∷ fourth_packet ∷ []

-- the sender before it sends the last of them
abbrev pub three_sent : Sending
three_sent = record { sent = 3; history = replicate (history_kept - 3) [] ++ (first_packet ∷ second_packet ∷ third_packet ∷ []) }

-- what the transfer gives: the modem has all four, two as received and two from spares, and the totals agree (rules 23.3, 23.6 and 23.7)
pub record WorkedOut (x : Transfer) : Type 0 where
  pub modem : x.modem
      ≡ delivered_as received 0 first_packet
      ∷ delivered_as spare 1 second_packet
      ∷ delivered_as spare 2 third_packet
      ∷ delivered_as received 3 fourth_packet
      ∷ []
  pub counts : (view_of x.receiver).counts ≡ record { received = 2; spare = 2; repaired = 0; lost = 0 }
  pub base : (view_of x.receiver).base ≡ 4
  pub sent : x.sender.sent ≡ 4

pub record Instance : Type 0 where
  -- the two conditions on the line (rule 23.1)
  pub few : NeverMoreInARow 2 four_marks
  pub last : LastArrives four_marks
  -- the last datagram: number 3, its packet, octet `00`, then two spares, the third packet and the second (rules 4.4 and 4.5)
  pub datagram : datagram_to_send (settings.Spares 2) fourth_packet three_sent
      ≡ done (0x00 ∷ 0x03 ∷ 0x06 ∷ 0xC0 ∷ 0x01 ∷ 0x80 ∷ 0x00 ∷ 0x00 ∷ 0xAA ∷ 0x00 ∷ 0x02
      ∷ 0x01 ∷ 0x04
      ∷ 0x06 ∷ 0xC0 ∷ 0x01 ∷ 0x80 ∷ 0x00 ∷ 0x00 ∷ 0x55
      ∷ [])
  -- whatever the calls return to a host, it is a transfer
  pub transfer : (s : Sender) (t : Session) → Hosted 2 four_marks four_packets s t → Transferred 2 four_marks four_packets s t
  pub worked_out : (x : Transfer) → Ran 2 x → x.line ≡ four_marks → x.packets ≡ four_packets → WorkedOut x
