-- The tables of the page, row by row, in octets and numbers: what an octet names as an edition, every value, and every field type with data
-- and without, in each edition, read and written (rules 6.3, 6.7, 6.10, 6.19, 7.1 to 7.10 and 7.16); and the places of padding behind an
-- added type (rule 5.5). Definitions only.
use Rattle.std.specs.Prelude.{Ok, Err, ℕ, ◌≡◌, true, false, List, [], ◌∷◌, map, replicate}
use Rattle.length.specs.Answers.{Answer, done, refuse, refuse_at}
use Rattle.length.specs.Refusals.{numbered}
use Rattle.format.specs.Reading.{found, stopped}
use Rattle.packet.specs.Edition.{Enumerated, never, always, may, allows, carries, by_edition}
use Rattle.packet.specs.Packet.{addition, PacketAnswer, read_packet}
use Rattle.packet.specs.Write.{packet_to_write}
use Rattle.packet.specs.Promise.{packet_outcome, packet_read}
use Rattle.packet.specs.NewCases.{plain, with_fields, field_of}
use Rattle.packet.specs.declared.types.PacketKind.{PacketKind}
use Rattle.packet.specs.declared.types.PacketKind.TheVariants.{Indicator, Data}
use Rattle.packet.specs.declared.types.Ending.TheVariants.{Whole}

-- by the octet of the edition, as received (rule 7.1)
abbrev pub read_in : ℕ → List ℕ → Answer PacketAnswer
read_in edition octets = by_edition edition (λ e. read_packet e Whole octets)

abbrev pub write_in : ℕ → PacketKind → ℕ → List ℕ → List ℕ → List ℕ → Answer (List ℕ)
write_in edition kind value types lengths octets = by_edition edition (λ e. packet_to_write e kind value types lengths octets)

-- data 0 with one field: of this type without data, and with one octet of data that begins there
abbrev pub bare : ℕ → Answer PacketAnswer
bare type = with_fields (field_of type 0 0 ∷ [])

abbrev pub carrying : ℕ → ℕ → Answer PacketAnswer
carrying start type = with_fields (field_of type start 1 ∷ [])

-- a value without fields, written
abbrev pub value_in : ℕ → PacketKind → ℕ → Answer (List ℕ)
value_in edition kind value = write_in edition kind value [] [] []

-- a field without data, which is one of length 0 (rule 6.18), and with one octet of data, written
abbrev pub bare_in : ℕ → ℕ → Answer (List ℕ)
bare_in edition type = write_in edition Data 0 (type ∷ []) (0 ∷ []) []

abbrev pub carrying_in : ℕ → ℕ → Answer (List ℕ)
carrying_in edition type = write_in edition Data 0 (type ∷ []) (1 ∷ []) (0x55 ∷ [])

-- nine values and one that was added
abbrev pub one_added : Enumerated
one_added = record { extensible = true; width = 4; assigned = 9; added = 1 }

pub record EditionCases : Type 0 where
  -- octet 0 is the old edition and 1 the new, to the reader and the writer (rules 7.1 and 7.13)
  pub octet-0 : read_in 0 (0xC0 ∷ 0x01 ∷ 0x10 ∷ []) ≡ bare 1
  pub octet-1 : read_in 1 (0xC0 ∷ 0x01 ∷ 0x10 ∷ []) ≡ bare 2
  pub written-0 : bare_in 0 1 ≡ done (0xC0 ∷ 0x01 ∷ 0x10 ∷ [])
  pub written-1 : bare_in 1 1 ≡ done (0xC0 ∷ 0x01 ∷ 0x08 ∷ [])
  -- another octet is 15, before 4 and all other refusals (rules 6.13, 6.20 and 7.2)
  pub octet-2 : read_in 2 (0xC0 ∷ 0x01 ∷ 0x10 ∷ []) ≡ refuse (numbered 15)
  pub octet-255 : read_in 255 (replicate 257 0) ≡ refuse (numbered 15)
  pub written_2 : write_in 2 Data 0 (replicate 17 1) [] [] ≡ refuse (numbered 15)

pub record ValueCases : Type 0 where
  -- indicators 0 to 15 and data kinds 0 to 8 are assigned in both editions (rules 6.1 to 6.3 and 7.3); data kinds 9 to 15 in four
  -- bits are 12
  pub old-indicators : map (λ x. read_in 0 (x ∷ [])) (0x00 ∷ 0x02 ∷ 0x04 ∷ 0x06 ∷ 0x08 ∷ 0x0A ∷ 0x0C ∷ 0x0E ∷ 0x10 ∷ 0x12 ∷ 0x14 ∷ 0x16 ∷ 0x18 ∷ 0x1A ∷ 0x1C ∷ 0x1E ∷ []) ≡ map (plain Indicator) (0 ∷ 1 ∷ 2 ∷ 3 ∷ 4 ∷ 5 ∷ 6 ∷ 7 ∷ 8 ∷ 9 ∷ 10 ∷ 11 ∷ 12 ∷ 13 ∷ 14 ∷ 15 ∷ [])
  pub old-kinds : map (λ x. read_in 0 (x ∷ [])) (0x40 ∷ 0x42 ∷ 0x44 ∷ 0x46 ∷ 0x48 ∷ 0x4A ∷ 0x4C ∷ 0x4E ∷ 0x50 ∷ []) ≡ map (plain Data) (0 ∷ 1 ∷ 2 ∷ 3 ∷ 4 ∷ 5 ∷ 6 ∷ 7 ∷ 8 ∷ [])
  pub past-old-kinds : map (λ x. read_in 0 (x ∷ [])) (0x52 ∷ 0x54 ∷ 0x56 ∷ 0x58 ∷ 0x5A ∷ 0x5C ∷ 0x5E ∷ []) ≡ replicate 7 (refuse (numbered 12))
  pub new-indicators : map (λ x. read_in 1 (x ∷ [])) (0x00 ∷ 0x02 ∷ 0x04 ∷ 0x06 ∷ 0x08 ∷ 0x0A ∷ 0x0C ∷ 0x0E ∷ 0x10 ∷ 0x12 ∷ 0x14 ∷ 0x16 ∷ 0x18 ∷ 0x1A ∷ 0x1C ∷ 0x1E ∷ []) ≡ map (plain Indicator) (0 ∷ 1 ∷ 2 ∷ 3 ∷ 4 ∷ 5 ∷ 6 ∷ 7 ∷ 8 ∷ 9 ∷ 10 ∷ 11 ∷ 12 ∷ 13 ∷ 14 ∷ 15 ∷ [])
  pub new-kinds : map (λ x. read_in 1 (x ∷ [])) (0x40 ∷ 0x42 ∷ 0x44 ∷ 0x46 ∷ 0x48 ∷ 0x4A ∷ 0x4C ∷ 0x4E ∷ 0x50 ∷ []) ≡ map (plain Data) (0 ∷ 1 ∷ 2 ∷ 3 ∷ 4 ∷ 5 ∷ 6 ∷ 7 ∷ 8 ∷ [])
  pub past-new-kinds : map (λ x. read_in 1 (x ∷ [])) (0x52 ∷ 0x54 ∷ 0x56 ∷ 0x58 ∷ 0x5A ∷ 0x5C ∷ 0x5E ∷ []) ≡ replicate 7 (refuse (numbered 12))
  -- the new edition adds indicators 16 to 22 and data kinds 9 to 14 (rules 7.4 and 7.5); past the last it is 12 (rule 7.8)
  pub added-indicators : map (read_in 1) ((0x20 ∷ 0x00 ∷ []) ∷ (0x20 ∷ 0x40 ∷ []) ∷ (0x20 ∷ 0x80 ∷ []) ∷ (0x20 ∷ 0xC0 ∷ []) ∷ (0x21 ∷ 0x00 ∷ []) ∷ (0x21 ∷ 0x40 ∷ []) ∷ (0x21 ∷ 0x80 ∷ []) ∷ []) ≡ map (plain Indicator) (16 ∷ 17 ∷ 18 ∷ 19 ∷ 20 ∷ 21 ∷ 22 ∷ [])
  pub added-kinds : map (read_in 1) ((0x60 ∷ 0x00 ∷ []) ∷ (0x60 ∷ 0x40 ∷ []) ∷ (0x60 ∷ 0x80 ∷ []) ∷ (0x60 ∷ 0xC0 ∷ []) ∷ (0x61 ∷ 0x00 ∷ []) ∷ (0x61 ∷ 0x40 ∷ []) ∷ []) ≡ map (plain Data) (9 ∷ 10 ∷ 11 ∷ 12 ∷ 13 ∷ 14 ∷ [])
  pub past-added : map (read_in 1) ((0x21 ∷ 0xC0 ∷ []) ∷ (0x2F ∷ 0xC0 ∷ []) ∷ (0x61 ∷ 0x80 ∷ []) ∷ (0x6F ∷ 0xC0 ∷ []) ∷ [])
      ≡ replicate 4 (refuse (numbered 12))
  -- in the old edition an added value is 12 at its extension bit (rule 7.6)
  pub added-old : map (read_in 0) ((0x20 ∷ []) ∷ (0x20 ∷ 0x00 ∷ []) ∷ (0x60 ∷ []) ∷ (0x60 ∷ 0x00 ∷ []) ∷ []) ≡ replicate 4 (refuse (numbered 12))
  -- the first four octets of the sheet, in the new edition too (rule 26.37)
  pub sheet-new : map (read_in 1) ((0x06 ∷ []) ∷ (0x01 ∷ []) ∷ (0xD2 ∷ []) ∷ (0x80 ∷ []) ∷ [])
      ≡ plain Indicator 3 ∷ refuse (numbered 5) ∷ refuse (numbered 12) ∷ refuse (numbered 14) ∷ []
  -- written with the data-field bit clear, and 12 past the last (rules 6.5 and 7.16)
  pub old-indicators-written : map (value_in 0 Indicator) (0 ∷ 1 ∷ 2 ∷ 3 ∷ 4 ∷ 5 ∷ 6 ∷ 7 ∷ 8 ∷ 9 ∷ 10 ∷ 11 ∷ 12 ∷ 13 ∷ 14 ∷ 15 ∷ []) ≡ map (λ x. done (x ∷ [])) (0x00 ∷ 0x02 ∷ 0x04 ∷ 0x06 ∷ 0x08 ∷ 0x0A ∷ 0x0C ∷ 0x0E ∷ 0x10 ∷ 0x12 ∷ 0x14 ∷ 0x16 ∷ 0x18 ∷ 0x1A ∷ 0x1C ∷ 0x1E ∷ [])
  pub old-kinds-written : map (value_in 0 Data) (0 ∷ 1 ∷ 2 ∷ 3 ∷ 4 ∷ 5 ∷ 6 ∷ 7 ∷ 8 ∷ []) ≡ map (λ x. done (x ∷ [])) (0x40 ∷ 0x42 ∷ 0x44 ∷ 0x46 ∷ 0x48 ∷ 0x4A ∷ 0x4C ∷ 0x4E ∷ 0x50 ∷ [])
  pub past-old : ◌≡◌ {A = List (Answer (List ℕ))} (value_in 0 Indicator 16 ∷ value_in 0 Data 9 ∷ []) (refuse (numbered 12) ∷ refuse (numbered 12) ∷ [])
  pub new-indicators-written : map (value_in 1 Indicator) (0 ∷ 15 ∷ 16 ∷ 17 ∷ 18 ∷ 19 ∷ 20 ∷ 21 ∷ 22 ∷ [])
      ≡ map done ((0x00 ∷ []) ∷ (0x1E ∷ []) ∷ (0x20 ∷ 0x00 ∷ []) ∷ (0x20 ∷ 0x40 ∷ []) ∷ (0x20 ∷ 0x80 ∷ []) ∷ (0x20 ∷ 0xC0 ∷ []) ∷ (0x21 ∷ 0x00 ∷ []) ∷ (0x21 ∷ 0x40 ∷ []) ∷ (0x21 ∷ 0x80 ∷ []) ∷ [])
  pub new-kinds-written : map (value_in 1 Data) (0 ∷ 8 ∷ 9 ∷ 10 ∷ 11 ∷ 12 ∷ 13 ∷ 14 ∷ []) ≡ map done ((0x40 ∷ []) ∷ (0x50 ∷ []) ∷ (0x60 ∷ 0x00 ∷ []) ∷ (0x60 ∷ 0x40 ∷ []) ∷ (0x60 ∷ 0x80 ∷ []) ∷ (0x60 ∷ 0xC0 ∷ []) ∷ (0x61 ∷ 0x00 ∷ []) ∷ (0x61 ∷ 0x40 ∷ []) ∷ [])
  pub past-new : ◌≡◌ {A = List (Answer (List ℕ))} (value_in 1 Indicator 23 ∷ value_in 1 Data 15 ∷ []) (refuse (numbered 12) ∷ refuse (numbered 12) ∷ [])

pub record TypeCases : Type 0 where
  -- types 0 to 7 (rule 6.10), then cm, jm, ci and v34rate (rule 7.10)
  pub rows : map carries (0 ∷ 1 ∷ 2 ∷ 3 ∷ 4 ∷ 5 ∷ 6 ∷ 7 ∷ 8 ∷ 9 ∷ 10 ∷ 11 ∷ [])
      ≡ always ∷ never ∷ never ∷ never ∷ never ∷ never ∷ always ∷ may ∷ always ∷ always ∷ always ∷ may ∷ []
  pub without-data : map (λ rule. allows rule false) (never ∷ always ∷ may ∷ []) ≡ true ∷ false ∷ true ∷ []
  pub with-data : map (λ rule. allows rule true) (never ∷ always ∷ may ∷ []) ≡ false ∷ true ∷ true ∷ []
  -- without data: a header of four bits in the old edition, of five in the new (rules 6.7 and 7.9)
  pub old-bare : map (λ x. read_in 0 (0xC0 ∷ 0x01 ∷ x ∷ [])) (0x00 ∷ 0x10 ∷ 0x20 ∷ 0x30 ∷ 0x40 ∷ 0x50 ∷ 0x60 ∷ 0x70 ∷ [])
      ≡ refuse_at 2 (numbered 14) ∷ bare 1 ∷ bare 2 ∷ bare 3 ∷ bare 4 ∷ bare 5 ∷ refuse_at 2 (numbered 14) ∷ bare 7 ∷ []
  pub new-bare : map (λ x. read_in 1 (0xC0 ∷ 0x01 ∷ x ∷ [])) (0x00 ∷ 0x08 ∷ 0x10 ∷ 0x18 ∷ 0x20 ∷ 0x28 ∷ 0x30 ∷ 0x38 ∷ [])
      ≡ refuse_at 2 (numbered 14) ∷ bare 1 ∷ bare 2 ∷ bare 3 ∷ bare 4 ∷ bare 5 ∷ refuse_at 2 (numbered 14) ∷ bare 7 ∷ []
  pub added-bare : map (read_in 1) ((0xC0 ∷ 0x01 ∷ 0x40 ∷ 0x00 ∷ []) ∷ (0xC0 ∷ 0x01 ∷ 0x40 ∷ 0x80 ∷ []) ∷ (0xC0 ∷ 0x01 ∷ 0x41 ∷ 0x00 ∷ []) ∷ (0xC0 ∷ 0x01 ∷ 0x41 ∷ 0x80 ∷ []) ∷ []) ≡ refuse_at 2 (numbered 14) ∷ refuse_at 2 (numbered 14) ∷ refuse_at 2 (numbered 14) ∷ bare 11 ∷ []
  -- with data
  pub old-data : map (λ x. read_in 0 (0xC0 ∷ 0x01 ∷ x ∷ 0x00 ∷ 0x00 ∷ 0x55 ∷ [])) (0x80 ∷ 0x90 ∷ 0xA0 ∷ 0xB0 ∷ 0xC0 ∷ 0xD0 ∷ 0xE0 ∷ 0xF0 ∷ [])
      ≡ carrying 5 0 ∷ refuse_at 2 (numbered 14) ∷ refuse_at 2 (numbered 14) ∷ refuse_at 2 (numbered 14) ∷ refuse_at 2 (numbered 14) ∷ refuse_at 2 (numbered 14) ∷ carrying 5 6 ∷ carrying 5 7 ∷ []
  pub new-data : map (λ x. read_in 1 (0xC0 ∷ 0x01 ∷ x ∷ 0x00 ∷ 0x00 ∷ 0x55 ∷ [])) (0x80 ∷ 0x88 ∷ 0x90 ∷ 0x98 ∷ 0xA0 ∷ 0xA8 ∷ 0xB0 ∷ 0xB8 ∷ [])
      ≡ carrying 5 0 ∷ refuse_at 2 (numbered 14) ∷ refuse_at 2 (numbered 14) ∷ refuse_at 2 (numbered 14) ∷ refuse_at 2 (numbered 14) ∷ refuse_at 2 (numbered 14) ∷ carrying 5 6 ∷ carrying 5 7 ∷ []
  pub added-data : map (read_in 1) ((0xC0 ∷ 0x01 ∷ 0xC0 ∷ 0x00 ∷ 0x00 ∷ 0x00 ∷ 0x55 ∷ []) ∷ (0xC0 ∷ 0x01 ∷ 0xC0 ∷ 0x80 ∷ 0x00 ∷ 0x00 ∷ 0x55 ∷ []) ∷ (0xC0 ∷ 0x01 ∷ 0xC1 ∷ 0x00 ∷ 0x00 ∷ 0x00 ∷ 0x55 ∷ []) ∷ (0xC0 ∷ 0x01 ∷ 0xC1 ∷ 0x80 ∷ 0x00 ∷ 0x00 ∷ 0x55 ∷ []) ∷ [])
      ≡ carrying 6 8 ∷ carrying 6 9 ∷ carrying 6 10 ∷ carrying 6 11 ∷ []
  -- written: 14 for data that a type must not have, or for none where it must; 12 past the last type (rule 6.19)
  pub old-bare-written : map (bare_in 0) (0 ∷ 1 ∷ 5 ∷ 6 ∷ 7 ∷ 8 ∷ [])
      ≡ refuse (numbered 14) ∷ done (0xC0 ∷ 0x01 ∷ 0x10 ∷ []) ∷ done (0xC0 ∷ 0x01 ∷ 0x50 ∷ []) ∷ refuse (numbered 14) ∷ done (0xC0 ∷ 0x01 ∷ 0x70 ∷ []) ∷ refuse (numbered 12) ∷ []
  pub old-data-written : map (carrying_in 0) (0 ∷ 1 ∷ 5 ∷ 6 ∷ 7 ∷ 8 ∷ [])
      ≡ done (0xC0 ∷ 0x01 ∷ 0x80 ∷ 0x00 ∷ 0x00 ∷ 0x55 ∷ []) ∷ refuse (numbered 14) ∷ refuse (numbered 14) ∷ done (0xC0 ∷ 0x01 ∷ 0xE0 ∷ 0x00 ∷ 0x00 ∷ 0x55 ∷ [])
      ∷ done (0xC0 ∷ 0x01 ∷ 0xF0 ∷ 0x00 ∷ 0x00 ∷ 0x55 ∷ []) ∷ refuse (numbered 12) ∷ []
  pub new-bare-written : map (bare_in 1) (0 ∷ 5 ∷ 6 ∷ 7 ∷ 8 ∷ 9 ∷ 10 ∷ 11 ∷ 12 ∷ [])
      ≡ refuse (numbered 14) ∷ done (0xC0 ∷ 0x01 ∷ 0x28 ∷ []) ∷ refuse (numbered 14) ∷ done (0xC0 ∷ 0x01 ∷ 0x38 ∷ []) ∷ refuse (numbered 14) ∷ refuse (numbered 14) ∷ refuse (numbered 14)
      ∷ done (0xC0 ∷ 0x01 ∷ 0x41 ∷ 0x80 ∷ []) ∷ refuse (numbered 12) ∷ []
  pub new-data-written : map (carrying_in 1) (5 ∷ 6 ∷ 9 ∷ 11 ∷ 12 ∷ [])
      ≡ refuse (numbered 14) ∷ done (0xC0 ∷ 0x01 ∷ 0xB0 ∷ 0x00 ∷ 0x00 ∷ 0x55 ∷ []) ∷ done (0xC0 ∷ 0x01 ∷ 0xC0 ∷ 0x80 ∷ 0x00 ∷ 0x00 ∷ 0x55 ∷ [])
      ∷ done (0xC0 ∷ 0x01 ∷ 0xC1 ∷ 0x80 ∷ 0x00 ∷ 0x00 ∷ 0x55 ∷ []) ∷ refuse (numbered 12) ∷ []
  -- the padding behind an added type is in the octet of the type's last bit (rules 5.4 and 5.5)
  pub cm-padding : read_in 1 (0xC0 ∷ 0x01 ∷ 0xC0 ∷ 0x01 ∷ 0x00 ∷ 0x00 ∷ 0x55 ∷ []) ≡ refuse_at 3 (numbered 5)
  pub v34rate-padding : read_in 1 (0xC0 ∷ 0x01 ∷ 0x41 ∷ 0x81 ∷ []) ≡ refuse_at 3 (numbered 5)
  -- a bare cm is 14 before 5 for that padding (rule 6.15)
  pub cm-bare-first : read_in 1 (0xC0 ∷ 0x01 ∷ 0x40 ∷ 0x01 ∷ []) ≡ refuse_at 2 (numbered 14)

-- the whole answer: the fields are in the first of 16 places, and the others are zero (rule 6.27); a refused packet has none
pub record AnswerCases : Type 0 where
  pub refused : packet_read (refuse (numbered 15)) ≡ Err (record { reason = numbered 15; place = 0 })
  pub one_field : packet_read (bare 7)
      ≡ Ok (record { kind = Data; value = 0; count = 1; fields = field_of 7 0 0 ∷ replicate 15 (field_of 0 0 0) })
  pub told_back : packet_outcome (packet_read (bare 7)) ≡ bare 7
  -- where one value is added, it is the first behind the others (rules 7.5 and 7.8)
  pub one-added : (addition one_added).read (0x00 ∷ []) 0 0 ≡ found 9 7
  pub past-one-added : (addition one_added).read (0x02 ∷ []) 0 0 ≡ stopped (record { reason = numbered 12; place = 0 })

pub record TableCases : Type 0 where
  pub edition_cases : EditionCases
  pub value_cases : ValueCases
  pub type_cases : TypeCases
  pub answer_cases : AnswerCases
