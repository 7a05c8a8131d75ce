-- The twelve worked cases (rules 26.1 to 26.12), proved of the definitions as one table (rule 28.16); and beside them the packet whose
-- field headers share octets (rules 26.16 and 26.34). Definitions only.
use Rattle.std.specs.Prelude.{ℕ, ◌≡◌, List, [], ◌∷◌}
use Rattle.length.specs.Refusals.{bad_form, spare_bit, not_assigned, wrong_data}
use Rattle.length.specs.Answers.{done, refuse, refuse_at}
use Rattle.length.specs.Length.{length_at, length_to_write}
use Rattle.packet.specs.Edition.{edition98}
use Rattle.packet.specs.Packet.{data_of, read_packet}
use Rattle.packet.specs.Write.{packet_to_write}
use Rattle.packet.specs.Cases.{mended_packet}
use Rattle.packet.specs.declared.types.PacketKind.TheVariants.{Indicator, Data}
use Rattle.packet.specs.declared.types.Ending.TheVariants.{Whole, Repaired}
use Rattle.session.specs.Members.{members_of}
use Rattle.session.specs.Cells.{repaired, filled_cell, cell_at, kept_before}
use Rattle.session.specs.View.{View, fresh_view}
use Rattle.session.specs.Offer.{offer}
use Rattle.sender.specs.Sending.{Sending, fresh_sending, sent_on}
use Rattle.sender.specs.Send.{datagram_to_send}
use Rattle.sender.specs.declared.Settings.TheVariants.{Parity}

-- packets 0 and 1 of rule 26.10
abbrev pub packet0 : List ℕ
packet0 = 0x06 ∷ []

abbrev pub packet1 : List ℕ
packet1 = 0xC0 ∷ 0x01 ∷ 0x80 ∷ 0x00 ∷ 0x00 ∷ 0x55 ∷ []

-- the message of datagram 2 there
abbrev pub message2 : List ℕ
message2 = 0xC6 ∷ 0x01 ∷ 0x80 ∷ 0x00 ∷ 0x00 ∷ 0x55 ∷ []

-- the datagrams of packets 0 and 1, without spares, and that of packet 2, `06`, with n = 2, m = 1 and that message
abbrev pub datagram0 : List ℕ
datagram0 = 0x00 ∷ 0x00 ∷ 0x01 ∷ 0x06 ∷ 0x00 ∷ 0x00 ∷ []

abbrev pub datagram1 : List ℕ
datagram1 = 0x00 ∷ 0x01 ∷ 0x06 ∷ 0xC0 ∷ 0x01 ∷ 0x80 ∷ 0x00 ∷ 0x00 ∷ 0x55 ∷ 0x00 ∷ 0x00 ∷ []

abbrev pub datagram2 : List ℕ
datagram2 = 0x00 ∷ 0x02 ∷ 0x01 ∷ 0x06 ∷ 0x80 ∷ 0x01 ∷ 0x02 ∷ 0x01 ∷ 0x06 ∷ message2

-- the sending session that has sent packets 0 and 1
abbrev pub sent01 : Sending
sent01 = sent_on packet1 (sent_on packet0 fresh_sending)

-- the receiving session that lost datagram 0 (rule 26.11): a fresh one, then offered datagrams 1 and 2
pub record Losing0 : Type 0 where
  pub with1 : View
  pub after : View
  pub first : offer datagram1 fresh_view ≡ done with1
  pub second : offer datagram2 with1 ≡ done after
  -- number 0, which is still at the base
  pub cell : cell_at after.cells kept_before ≡ filled_cell 2 repaired (0x06 ∷ 0 ∷ 0 ∷ 0 ∷ 0 ∷ 0 ∷ [])
  pub reads : read_packet edition98 Repaired (cell_at after.cells kept_before).octets
      ≡ done (record { kind = Indicator; value = 3; fields = [] })

pub record TwelveCases : Type 0 where
  -- rule 26.1: `06` is indicator 3
  pub case-1 : read_packet edition98 Whole (0x06 ∷ []) ≡ done (record { kind = Indicator; value = 3; fields = [] })
  -- rule 26.2: `01` is 5
  pub case-2 : read_packet edition98 Whole (0x01 ∷ []) ≡ refuse spare_bit
  -- rule 26.3: `20 00` is 12
  pub case-3 : read_packet edition98 Whole (0x20 ∷ 0x00 ∷ []) ≡ refuse not_assigned
  -- rule 26.4: `D2`, data kind 9, is 12
  pub case-4 : read_packet edition98 Whole (0xD2 ∷ []) ≡ refuse not_assigned
  -- rule 26.5: `80` is 14
  pub case-5 : read_packet edition98 Whole (0x80 ∷ []) ≡ refuse wrong_data
  -- rule 26.6: `C0 02 80 00 02 FF 13 80 40` is V.21, a field of type 0 with data `FF 13 80`, then one of type 4
  pub case-6 : (read_packet edition98 Whole (0xC0 ∷ 0x02 ∷ 0x80 ∷ 0x00 ∷ 0x02 ∷ 0xFF ∷ 0x13 ∷ 0x80 ∷ 0x40 ∷ [])
      ≡ done (record {
        kind = Data;
        value = 0;
        fields = record { kind = 0; start = 5; size = 3 } ∷ record { kind = 4; start = 0; size = 0 } ∷ [];
      }))
      × (data_of (0xC0 ∷ 0x02 ∷ 0x80 ∷ 0x00 ∷ 0x02 ∷ 0xFF ∷ 0x13 ∷ 0x80 ∷ 0x40 ∷ []) (record { kind = 0; start = 5; size = 3 })
      ≡ 0xFF ∷ 0x13 ∷ 0x80 ∷ [])
  -- rule 26.7: length 127 is `7F`, written and read
  pub case-7 : (length_to_write 127 ≡ done (0x7F ∷ [])) × (length_at (0x7F ∷ []) ≡ done (record { value = 127; size = 1 }))
  -- rule 26.8: length 128 is `80 80`, written and read
  pub case-8 : (length_to_write 128 ≡ done (0x80 ∷ 0x80 ∷ [])) × (length_at (0x80 ∷ 0x80 ∷ []) ≡ done (record { value = 128; size = 2 }))
  -- rule 26.9: `80 7F` is 3
  pub case-9 : length_at (0x80 ∷ 0x7F ∷ []) ≡ refuse bad_form
  -- rule 26.10: over packets 0 and 1, n = 2, m = 1, the message of datagram 2 is `C6 01 80 00 00 55`
  pub case-10 : datagram_to_send (Parity 2 1) packet0 sent01 ≡ done datagram2
  -- rule 26.11: there, losing datagram 0 repairs number 0 as `06` and five zeros, which reads as indicator 3
  pub case-11 : Losing0
  -- rule 26.12: with n = 2 and m = 2 the messages of datagram 4 cover 2, 0 and 3, 1
  pub case-12 : (members_of 4 2 2 0 ≡ 2 ∷ 0 ∷ []) × (members_of 4 2 2 1 ≡ 3 ∷ 1 ∷ [])

-- rule 26.16: two frames in one packet, `C0 04 80 00 00 AA 28 00 00 BB 40`
abbrev pub mended_octets : List ℕ
mended_octets = 0xC0 ∷ 0x04 ∷ 0x80 ∷ 0x00 ∷ 0x00 ∷ 0xAA ∷ 0x28 ∷ 0x00 ∷ 0x00 ∷ 0xBB ∷ 0x40 ∷ []

pub record MendedExample : Type 0 where
  -- it reads as two frames of one octet each, and these fields are written so (rule 26.16)
  pub reads : read_packet edition98 Whole mended_octets ≡ done mended_packet
  pub writes : packet_to_write edition98 Data 0 (0 ∷ 2 ∷ 0 ∷ 4 ∷ []) (1 ∷ 0 ∷ 1 ∷ 0 ∷ []) (0xAA ∷ 0xBB ∷ []) ≡ done mended_octets
  -- with each header on an octet of its own it is 14 at 6: the low half of `20` is read as a header of type 0 without data (rule 26.34)
  pub other : read_packet edition98 Whole (0xC0 ∷ 0x04 ∷ 0x80 ∷ 0x00 ∷ 0x00 ∷ 0xAA ∷ 0x20 ∷ 0x80 ∷ 0x00 ∷ 0x00 ∷ 0xBB ∷ 0x40 ∷ [])
      ≡ refuse_at 6 wrong_data
