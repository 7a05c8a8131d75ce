-- Small packets of the old edition, read and written, at a limit or where a rule could be read in two ways. Each case has one answer; a
-- refusal of an item gives the octet at which the item begins (rule 2.27).
use Rattle.std.specs.Prelude.{ℕ, ◌+◌, ◌-◌, ◌/◌, ◌%◌, ◌≡◌, List, [], ◌∷◌, replicate}
use Rattle.length.specs.Refusals.{ends_early, bad_form, outside_sizes, spare_bit, left_over, not_assigned, wrong_data, wrong_settings}
use Rattle.length.specs.Answers.{done, refuse, refuse_at}
use Rattle.datagram.specs.Sizes.{packet_limit}
use Rattle.packet.specs.Edition.{edition98}
use Rattle.packet.specs.Packet.{PacketAnswer, read_packet}
use Rattle.packet.specs.Write.{packet_to_write}
use Rattle.packet.specs.declared.types.PacketKind.TheVariants.{Indicator, Data}
use Rattle.packet.specs.declared.types.Ending.TheVariants.{Whole, Repaired}

-- two frames in one packet (rule 26.16)
abbrev pub mended_packet : PacketAnswer
mended_packet = record {
  kind = Data;
  value = 0;
  fields =
      record { kind = 0; start = 5; size = 1 }
      ∷ record { kind = 2; start = 0; size = 0 }
      ∷ record { kind = 0; start = 9; size = 1 }
      ∷ record { kind = 4; start = 0; size = 0 }
      ∷ [];
}

-- a packet of one field with this many octets of data, in 5 octets more (rule 6.8)
abbrev pub one_field : ℕ → List ℕ
one_field size = 0xC0 ∷ 0x01 ∷ 0x80 ∷ (size - 1) / 256 ∷ (size - 1) % 256 ∷ replicate size 0x55

pub record ReadCases : Type 0 where
  -- over the packet limit 4, before all else (rules 6.13 and 26.13)
  pub over-limit : read_packet edition98 Whole (one_field (packet_limit - 4)) ≡ refuse outside_sizes
  pub at-limit : read_packet edition98 Whole (one_field (packet_limit - 5))
      ≡ done (record { kind = Data; value = 0; fields = record { kind = 0; start = 5; size = packet_limit - 5 } ∷ [] })
  -- an added value is 12 in the old edition (rules 7.6 and 26.3)
  pub extended : read_packet edition98 Whole (0x20 ∷ 0x00 ∷ []) ≡ refuse not_assigned
  -- 12 for the value, then 5 for the padding, then 14 (rule 6.14)
  pub value-first : read_packet edition98 Whole (0xD3 ∷ []) ≡ refuse not_assigned
  pub bit-first : read_packet edition98 Whole (0x81 ∷ []) ≡ refuse spare_bit
  -- a count that is not 1 to 16 is 4 (rules 1.8 and 6.4), and its form is the length rule's (rules 3.4 and 26.22)
  pub count-0 : read_packet edition98 Whole (0xC0 ∷ 0x00 ∷ []) ≡ refuse_at 1 outside_sizes
  pub count-over : read_packet edition98 Whole (0xC0 ∷ 0x11 ∷ []) ≡ refuse_at 1 outside_sizes
  pub count-form : read_packet edition98 Whole (0xC0 ∷ 0x80 ∷ 0x01 ∷ []) ≡ refuse_at 1 bad_form
  -- 14 for a field, then 5 for the padding behind its header (rule 6.15); type 0 always carries data (rule 6.10)
  pub data-first : read_packet edition98 Whole (0xC0 ∷ 0x01 ∷ 0x01 ∷ []) ≡ refuse_at 2 wrong_data
  pub header-bit : read_packet edition98 Whole (0xC0 ∷ 0x01 ∷ 0x18 ∷ []) ≡ refuse_at 2 spare_bit
  -- a bit set in padding is 5 in a repaired packet too (rules 5.4 and 26.24), and before a missing length (rule 5.5)
  pub bit-repaired : read_packet edition98 Repaired (0xC0 ∷ 0x01 ∷ 0x11 ∷ []) ≡ refuse_at 2 spare_bit
  pub bit-before-length : read_packet edition98 Whole (0xC0 ∷ 0x01 ∷ 0x81 ∷ []) ≡ refuse_at 2 spare_bit
  -- after a field without data the next header begins in the next bit (rules 5.2, 5.6 and 26.16), not in the next octet (rule 26.34)
  pub mended : read_packet edition98 Whole (0xC0 ∷ 0x04 ∷ 0x80 ∷ 0x00 ∷ 0x00 ∷ 0xAA ∷ 0x28 ∷ 0x00 ∷ 0x00 ∷ 0xBB ∷ 0x40 ∷ [])
      ≡ done mended_packet
  pub on-its-own : read_packet edition98 Whole (0xC0 ∷ 0x04 ∷ 0x80 ∷ 0x00 ∷ 0x00 ∷ 0xAA ∷ 0x20 ∷ 0x80 ∷ 0x00 ∷ 0x00 ∷ 0xBB ∷ 0x40 ∷ [])
      ≡ refuse_at 6 wrong_data
  -- with one field more in the count, padding is read as a header (rules 6.16 and 26.24); a field of type 0 without data is 14 (rule 6.10)
  pub one-too-many : read_packet edition98 Whole (0xC0 ∷ 0x02 ∷ 0x10 ∷ []) ≡ refuse_at 2 wrong_data
  pub bare-0 : read_packet edition98 Whole (0xC0 ∷ 0x01 ∷ 0x00 ∷ []) ≡ refuse_at 2 wrong_data
  -- two octets with the length minus one, then the data (rule 6.8): no form to refuse, but 1, then 4 (rules 6.9 and 26.23)
  pub data-1 : read_packet edition98 Whole (0xC0 ∷ 0x01 ∷ 0x80 ∷ 0x00 ∷ 0x00 ∷ 0x55 ∷ [])
      ≡ done (record { kind = Data; value = 0; fields = record { kind = 0; start = 5; size = 1 } ∷ [] })
  -- a length of 256 is within the sizes, so its data is missing (rules 1.9 and 6.9)
  pub data-256 : read_packet edition98 Whole (0xC0 ∷ 0x01 ∷ 0x80 ∷ 0x00 ∷ 0xFF ∷ []) ≡ refuse_at 5 ends_early
  pub length_cut : read_packet edition98 Whole (0xC0 ∷ 0x01 ∷ 0x80 ∷ 0xFF ∷ []) ≡ refuse_at 3 ends_early
  pub data-over : read_packet edition98 Whole (0xC0 ∷ 0x01 ∷ 0x80 ∷ packet_limit / 256 ∷ packet_limit % 256 ∷ []) ≡ refuse_at 3 outside_sizes
  -- a received packet ends at its last field (rule 6.11), and a repaired one may go on with zeros only (rules 6.12 and 26.25)
  pub zero-after : read_packet edition98 Whole (0x06 ∷ 0x00 ∷ []) ≡ refuse_at 1 left_over
  pub eighth-octet : read_packet edition98 Whole (0xC0 ∷ 0x01 ∷ 0x80 ∷ 0x00 ∷ 0x01 ∷ 0xAA ∷ 0xBB ∷ 0x00 ∷ []) ≡ refuse_at 7 left_over
  pub one-after-zero : read_packet edition98 Repaired (0x06 ∷ 0x00 ∷ 0x01 ∷ []) ≡ refuse_at 1 left_over
  -- a true last octet may be zero (rule 27.1): the data is 55 00, whatever zeros follow
  pub true-zero : read_packet edition98 Repaired (0xC0 ∷ 0x01 ∷ 0x80 ∷ 0x00 ∷ 0x01 ∷ 0x55 ∷ 0x00 ∷ [])
      ≡ done (record { kind = Data; value = 0; fields = record { kind = 0; start = 5; size = 2 } ∷ [] })
  -- an empty packet is 1 (rule 2.1), and an indicator with data is 14 at place 0 (rules 6.6, 6.17 and 26.5)
  pub empty : read_packet edition98 Whole [] ≡ refuse ends_early
  pub data-of-indicator : read_packet edition98 Whole (0x80 ∷ []) ≡ refuse wrong_data
  -- a length, a header, padding and the octets that a length promises are one item each (rules 2.28 and 26.23)
  pub no-count : read_packet edition98 Whole (0xC0 ∷ []) ≡ refuse_at 1 ends_early
  pub no_header : read_packet edition98 Whole (0xC0 ∷ 0x01 ∷ []) ≡ refuse_at 2 ends_early
  pub no_length : read_packet edition98 Whole (0xC0 ∷ 0x01 ∷ 0x80 ∷ []) ≡ refuse_at 3 ends_early
  pub data-cut : read_packet edition98 Whole (0xC0 ∷ 0x01 ∷ 0x80 ∷ 0x00 ∷ 0x01 ∷ 0xAA ∷ []) ≡ refuse_at 5 ends_early
  pub second-padding : read_packet edition98 Whole (0xC0 ∷ 0x02 ∷ 0x80 ∷ 0x00 ∷ 0x00 ∷ 0xAA ∷ 0x84 ∷ []) ≡ refuse_at 6 spare_bit
  pub second-length : read_packet edition98 Whole (0xC0 ∷ 0x02 ∷ 0x80 ∷ 0x00 ∷ 0x00 ∷ 0xAA ∷ 0x80 ∷ 0x00 ∷ []) ≡ refuse_at 7 ends_early
  -- 6 gives the first octet left over, and zeros before the one that is not zero are left over too (rules 2.29 and 6.12)
  pub left-after-zero : read_packet edition98 Repaired (0xC0 ∷ 0x01 ∷ 0x80 ∷ 0x00 ∷ 0x00 ∷ 0xAA ∷ 0x00 ∷ 0x01 ∷ []) ≡ refuse_at 6 left_over

pub record WriteCases : Type 0 where
  -- 4 for over 16 types, then 15, 12, 14 and 4 for a length (rule 6.20): it is the types that are counted (rule 6.21)
  pub types-over : packet_to_write edition98 Data 0 (replicate 17 1) (replicate 17 0) [] ≡ refuse outside_sizes
  pub lengths-over : packet_to_write edition98 Data 0 (replicate 16 1) (replicate 17 0) [] ≡ refuse wrong_settings
  pub types-first : packet_to_write edition98 Data 0 (replicate 18 1) [] [] ≡ refuse outside_sizes
  pub settings-before-12 : packet_to_write edition98 Data 9 (0 ∷ []) [] [] ≡ refuse wrong_settings
  pub value-before-14 : packet_to_write edition98 Data 9 (0 ∷ []) (0 ∷ []) [] ≡ refuse not_assigned
  pub data-before-4 : packet_to_write edition98 Data 0 (1 ∷ []) ((packet_limit + 1) ∷ []) (replicate (packet_limit + 1) 0) ≡ refuse wrong_data
  -- true sums: nothing wraps (rule 2.34)
  pub true-sum : packet_to_write edition98 Data 0 (0 ∷ 0 ∷ []) (65535 ∷ 1 ∷ []) [] ≡ refuse wrong_settings
  -- a type over 7 is 12 (rule 6.19)
  pub type-over : packet_to_write edition98 Data 0 (8 ∷ []) (0 ∷ []) [] ≡ refuse not_assigned
  -- an indicator with fields is 14, with or without data (rule 6.22)
  pub indicator-field : packet_to_write edition98 Indicator 0 (1 ∷ []) (0 ∷ []) [] ≡ refuse wrong_data
  -- each field is within the packet limit, and the whole is over it by one (rules 6.23 and 26.27)
  pub whole-over : packet_to_write edition98 Data 0 (0 ∷ []) ((packet_limit - 4) ∷ []) (replicate (packet_limit - 4) 0) ≡ refuse outside_sizes
  pub whole-at : packet_to_write edition98 Data 0 (0 ∷ []) ((packet_limit - 5) ∷ []) (replicate (packet_limit - 5) 0x55)
      ≡ done (one_field (packet_limit - 5))
  -- two frames in one packet, written (rule 26.16)
  pub mended : packet_to_write edition98 Data 0 (0 ∷ 2 ∷ 0 ∷ 4 ∷ []) (1 ∷ 0 ∷ 1 ∷ 0 ∷ []) (0xAA ∷ 0xBB ∷ [])
      ≡ done (0xC0 ∷ 0x04 ∷ 0x80 ∷ 0x00 ∷ 0x00 ∷ 0xAA ∷ 0x28 ∷ 0x00 ∷ 0x00 ∷ 0xBB ∷ 0x40 ∷ [])
