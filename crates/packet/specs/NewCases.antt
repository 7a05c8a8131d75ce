-- Small packets of the new edition, read and written (rules 7.4 to 7.13). Each case has one answer; a refusal of an item gives the octet at
-- which the item begins (rule 2.27).
use Rattle.std.specs.Prelude.{ℕ, ◌≡◌, List, [], ◌∷◌}
use Rattle.length.specs.Refusals.{ends_early, spare_bit, not_assigned, wrong_data}
use Rattle.length.specs.Answers.{Answer, done, refuse, refuse_at}
use Rattle.packet.specs.Edition.{edition98, edition02}
use Rattle.packet.specs.Packet.{PacketAnswer, read_packet}
use Rattle.packet.specs.Write.{packet_to_write}
use Rattle.packet.specs.declared.types.Field.{Field}
use Rattle.packet.specs.declared.types.PacketKind.{PacketKind}
use Rattle.packet.specs.declared.types.PacketKind.TheVariants.{Indicator, Data}
use Rattle.packet.specs.declared.types.Ending.TheVariants.{Whole}

-- as received
abbrev pub read_new : List ℕ → Answer PacketAnswer
read_new octets = read_packet edition02 Whole octets

abbrev pub write_new : PacketKind → ℕ → List ℕ → List ℕ → List ℕ → Answer (List ℕ)
write_new kind value types lengths octets = packet_to_write edition02 kind value types lengths octets

-- a packet without fields, and data 0 with these fields
abbrev pub plain : PacketKind → ℕ → Answer PacketAnswer
plain kind value = done (record { kind = kind; value = value; fields = [] })

abbrev pub with_fields : List Field → Answer PacketAnswer
with_fields fields = done (record { kind = Data; value = 0; fields = fields })

-- a field, by its type and where its data begins
abbrev pub field_of : ℕ → ℕ → ℕ → Field
field_of kind start size = record { kind = kind; start = start; size = size }

pub record NewReadCases : Type 0 where
  -- the added indicators are 16 to 22, from `20 00` on, the added data kinds 9 to 14 (rules 7.4, 7.5 and 26.26); past them 12 (rule 7.8)
  pub first-indicator : read_new (0x20 ∷ 0x00 ∷ []) ≡ plain Indicator 16
  pub last-indicator : read_new (0x21 ∷ 0x80 ∷ []) ≡ plain Indicator 22
  pub past-indicators : read_new (0x21 ∷ 0xC0 ∷ []) ≡ refuse not_assigned
  pub first_kind : read_new (0x60 ∷ 0x00 ∷ []) ≡ plain Data 9
  pub last-kind : read_new (0x61 ∷ 0x40 ∷ []) ≡ plain Data 14
  pub past-kinds : read_new (0x61 ∷ 0x80 ∷ []) ≡ refuse not_assigned
  -- 12 for a 1 in place of the 0 bit, which is read before the six bits are missed (rule 7.7)
  pub not-0 : read_new (0x30 ∷ []) ≡ refuse not_assigned
  pub cut : read_new (0x2F ∷ []) ≡ refuse ends_early
  -- at the first value 1 or 12, then 5, then 14 (rules 6.14 and 26.26); the padding behind it is an item of its own (rule 7.11)
  pub missing-first : read_new (0xA0 ∷ []) ≡ refuse ends_early
  pub not-0-before-14 : read_new (0xB0 ∷ 0x00 ∷ []) ≡ refuse not_assigned
  pub spare-bit : read_new (0x20 ∷ 0x01 ∷ []) ≡ refuse_at 1 spare_bit
  pub spare-before-14 : read_new (0xA0 ∷ 0x01 ∷ []) ≡ refuse_at 1 spare_bit
  pub indicator-with-data : read_new (0xA0 ∷ 0x00 ∷ []) ≡ refuse wrong_data
  -- a header has five bits (rule 7.9) and is packed as in the old edition (rule 7.12); one that ends early has the place of its first bit's
  -- octet (rules 5.7 and 26.26)
  pub mended : read_new (0xC0 ∷ 0x04 ∷ 0x80 ∷ 0x00 ∷ 0x00 ∷ 0xAA ∷ 0x14 ∷ 0x00 ∷ 0x00 ∷ 0x00 ∷ 0xBB ∷ 0x20 ∷ [])
      ≡ with_fields (field_of 0 5 1 ∷ field_of 2 0 0 ∷ field_of 0 10 1 ∷ field_of 4 0 0 ∷ [])
  pub header-cut : read_new (0xC0 ∷ 0x02 ∷ 0x08 ∷ []) ≡ refuse_at 2 ends_early
  pub header-bit : read_new (0xC0 ∷ 0x01 ∷ 0x09 ∷ []) ≡ refuse_at 2 spare_bit
  -- of the added types cm, jm and ci always carry data, and v34rate may (rule 7.10): 8 cm, 9 jm, 10 ci, 11 v34rate (rule 7.4)
  pub cm : read_new (0xC0 ∷ 0x01 ∷ 0xC0 ∷ 0x00 ∷ 0x00 ∷ 0x00 ∷ 0x55 ∷ []) ≡ with_fields (field_of 8 6 1 ∷ [])
  pub cm-bare : read_new (0xC0 ∷ 0x01 ∷ 0x40 ∷ 0x00 ∷ []) ≡ refuse_at 2 wrong_data
  pub v34rate : read_new (0xC0 ∷ 0x01 ∷ 0xC1 ∷ 0x80 ∷ 0x00 ∷ 0x00 ∷ 0x55 ∷ []) ≡ with_fields (field_of 11 6 1 ∷ [])
  pub v34rate-bare : read_new (0xC0 ∷ 0x01 ∷ 0x41 ∷ 0x80 ∷ []) ≡ with_fields (field_of 11 0 0 ∷ [])
  -- 12 past the last added type (rule 7.8) and for a 1 in place of the 0 bit; a type that is cut behind that bit is 1 (rule 7.7)
  pub past-types : read_new (0xC0 ∷ 0x01 ∷ 0xC2 ∷ 0x00 ∷ []) ≡ refuse_at 2 not_assigned
  pub type-not-0 : read_new (0xC0 ∷ 0x01 ∷ 0xE0 ∷ []) ≡ refuse_at 2 not_assigned
  pub type-cut : read_new (0xC0 ∷ 0x01 ∷ 0xDF ∷ []) ≡ refuse_at 2 ends_early
  -- the same octets have a field of type 1 in the old edition and of type 2 in the new (rule 7.13)
  pub old-type : read_packet edition98 Whole (0xC0 ∷ 0x01 ∷ 0x10 ∷ []) ≡ with_fields (field_of 1 0 0 ∷ [])
  pub new-type : read_new (0xC0 ∷ 0x01 ∷ 0x10 ∷ []) ≡ with_fields (field_of 2 0 0 ∷ [])

pub record NewWriteCases : Type 0 where
  -- an added value is written in the six bits (rule 7.5), and past the last one it is 12 (rule 7.8)
  pub first-indicator : write_new Indicator 16 [] [] [] ≡ done (0x20 ∷ 0x00 ∷ [])
  pub last-indicator : write_new Indicator 22 [] [] [] ≡ done (0x21 ∷ 0x80 ∷ [])
  pub past-indicators : write_new Indicator 23 [] [] [] ≡ refuse not_assigned
  pub last-kind : write_new Data 14 [] [] [] ≡ done (0x61 ∷ 0x40 ∷ [])
  pub past-kinds : write_new Data 15 [] [] [] ≡ refuse not_assigned
  -- an added value is 12 in the old edition (rule 7.6)
  pub added-old : packet_to_write edition98 Indicator 16 [] [] [] ≡ refuse not_assigned
  -- headers of five bits, packed as in the old edition (rules 7.9 and 7.12)
  pub mended : write_new Data 0 (0 ∷ 2 ∷ 0 ∷ 4 ∷ []) (1 ∷ 0 ∷ 1 ∷ 0 ∷ []) (0xAA ∷ 0xBB ∷ [])
      ≡ done (0xC0 ∷ 0x04 ∷ 0x80 ∷ 0x00 ∷ 0x00 ∷ 0xAA ∷ 0x14 ∷ 0x00 ∷ 0x00 ∷ 0x00 ∷ 0xBB ∷ 0x20 ∷ [])
  -- cm always carries data, and v34rate may (rule 7.10)
  pub cm : write_new Data 0 (8 ∷ []) (1 ∷ []) (0x55 ∷ []) ≡ done (0xC0 ∷ 0x01 ∷ 0xC0 ∷ 0x00 ∷ 0x00 ∷ 0x00 ∷ 0x55 ∷ [])
  pub cm-bare : write_new Data 0 (8 ∷ []) (0 ∷ []) [] ≡ refuse wrong_data
  pub v34rate-bare : write_new Data 0 (11 ∷ []) (0 ∷ []) [] ≡ done (0xC0 ∷ 0x01 ∷ 0x41 ∷ 0x80 ∷ [])
  -- a type over 11 is 12 (rule 6.19)
  pub past-types : write_new Data 0 (12 ∷ []) (0 ∷ []) [] ≡ refuse not_assigned
