-- Bits read and written in literal octets: each operation at an octet edge, inside an octet and across two. A refusal is its number and the
-- octet at which its item begins (rule 2.27). Definitions only.
use Rattle.std.specs.Prelude.{ℕ, ◌≡◌, true, false, List, [], ◌∷◌, map, ltb}
use Rattle.length.specs.Answers.{done, refuse_at}
use Rattle.length.specs.Refusals.{numbered}
use Rattle.format.specs.Spelling.{bit, octet, spelt, whole, wide, gap, packed, in_octets}
use Rattle.format.specs.Reading.{Finding, found, stopped, bit_at, check}
use Rattle.format.specs.Reading as reading
use Rattle.format.specs.Format.{flag, bits, align, here, octets, octets_front, two_octets, length_rule, known, item, guarded, demand}
use Rattle.format.specs.Format.{◌⊳◌, made, sequence_of}
use Rattle.format.specs.Places.{bits_at, edge, edge_at}
use Rattle.format.specs.Waiting.{waiting, none_wait, Waits, joined, full_octets, left, closed}

-- refused with this number, at this octet
abbrev pub stopped_at : {A : Type 0} → ℕ → ℕ → Finding A
stopped_at place number = stopped (record { reason = numbered number; place = place })

pub record ReadingCases : Type 0 where
  -- the highest bit of an octet comes first (rule 5.1)
  pub octet-a5 : map (bit_at (0xA5 ∷ [])) (0 ∷ 1 ∷ 2 ∷ 3 ∷ 4 ∷ 5 ∷ 6 ∷ 7 ∷ []) ≡ 1 ∷ 0 ∷ 1 ∷ 0 ∷ 0 ∷ 1 ∷ 0 ∷ 1 ∷ []
  pub none-there : bit_at [] 7 ≡ 0
  pub next-octet : map (bit_at (0x7F ∷ 0x80 ∷ [])) (8 ∷ 9 ∷ []) ≡ 1 ∷ 0 ∷ []
  -- the place goes on by one bit (rule 5.1); behind the last octet it is 1, at the item (rules 2.1 and 2.27)
  pub one : reading.bit (0xA5 ∷ []) 0 0 ≡ found 1 1
  pub one_last : reading.bit (0xA5 ∷ []) 0 7 ≡ found 1 8
  pub one-missing : reading.bit (0xA5 ∷ []) 0 8 ≡ stopped_at 0 1
  pub one-missing-later : reading.bit (0xA5 ∷ 0xA5 ∷ []) 1 16 ≡ stopped_at 1 1
  -- some bits as a number, the highest first, across octets too (rules 5.1 and 5.7)
  pub none : reading.bits 0 [] 0 0 ≡ found 0 0
  pub three : reading.bits 3 (0xA5 ∷ []) 0 0 ≡ found 5 3
  pub across : reading.bits 4 (0x03 ∷ 0x80 ∷ []) 0 6 ≡ found 14 10
  pub across-cut : reading.bits 4 (0x03 ∷ []) 0 6 ≡ stopped_at 0 1
  pub set : reading.flag (0x40 ∷ []) 0 1 ≡ found true 2
  pub clear : reading.flag (0x40 ∷ []) 0 0 ≡ found false 1
  -- to an octet edge, by zero bits, none at an edge (rule 5.3)
  pub at_edge : reading.align (0xFF ∷ 0xFF ∷ []) 0 8 ≡ found tt 8
  pub at-end : reading.align (0xFF ∷ []) 0 8 ≡ found tt 8
  pub padded : reading.align (0xE0 ∷ 0xFF ∷ []) 0 3 ≡ found tt 8
  pub last_bit : reading.align (0xFE ∷ []) 0 7 ≡ found tt 8
  -- a bit set there is 5 (rule 5.4), at the octet of the padding, whatever item it is in (rule 5.5)
  pub first-set : reading.align (0x00 ∷ 0xF0 ∷ []) 0 11 ≡ stopped_at 1 5
  pub last_set : reading.align (0x00 ∷ 0xE1 ∷ []) 0 11 ≡ stopped_at 1 5
  pub set-later : reading.align (0x01 ∷ []) 7 3 ≡ stopped_at 0 5
  -- a test that fails is refused at the item (rule 2.27), and an item begins in the octet of its first bit (rule 5.7)
  pub passes : check (numbered 12) true [] 3 27 ≡ found tt 27
  pub fails : check (numbered 12) false [] 3 27 ≡ stopped_at 3 12
  pub fails-at-1 : reading.item (check (numbered 12) false) [] 0 14 ≡ stopped_at 1 12
  pub fails-at-2 : reading.item (check (numbered 12) false) [] 0 17 ≡ stopped_at 2 12
  -- whole octets, from an octet edge on; a refusal counts its place from the first octet (rules 2.28 and 2.31)
  pub two : reading.octetwise (octets_front 2) (0x00 ∷ 0xAA ∷ 0xBB ∷ 0xCC ∷ []) 0 8 ≡ found (0xAA ∷ 0xBB ∷ []) 24
  pub two-missing : reading.octetwise (octets_front 2) (0x00 ∷ 0x00 ∷ 0xAA ∷ []) 0 16 ≡ stopped_at 2 1
  pub one_later : reading.octetwise (octets_front 1) (0 ∷ 1 ∷ 2 ∷ 3 ∷ 4 ∷ 5 ∷ 6 ∷ 0xAA ∷ 0xBB ∷ []) 0 56 ≡ found (0xAA ∷ []) 64
  pub missing-later : reading.octetwise (octets_front 2) (0 ∷ 1 ∷ 2 ∷ 3 ∷ 4 ∷ 5 ∷ 6 ∷ 0xAA ∷ []) 0 56 ≡ stopped_at 7 1
  -- one after the other: 1B is 00 01 10 11 in pairs of bits (rule 5.6)
  pub pairs : reading.sequence_of 3 (reading.bits 2) (0x1B ∷ []) 0 0 ≡ found (0 ∷ 1 ∷ 2 ∷ []) 6
  pub no_pairs : reading.sequence_of 0 (reading.bits 2) (0x1B ∷ []) 0 4 ≡ found [] 4
  pub pairs-cut : reading.sequence_of 5 (reading.bits 2) (0x1B ∷ []) 0 0 ≡ stopped_at 0 1

pub record SpellingCases : Type 0 where
  -- the lowest bits of a number, the highest of them first (rule 5.1)
  pub ten : spelt 4 10 ≡ bit 1 ∷ bit 0 ∷ bit 1 ∷ bit 0 ∷ []
  pub low-bits : spelt 2 13 ≡ bit 0 ∷ bit 1 ∷ []
  pub no_bits : spelt 0 13 ≡ []
  pub unchanged : whole (0xAA ∷ 0x00 ∷ []) ≡ octet 0xAA ∷ octet 0x00 ∷ []
  pub none-wide : wide [] ≡ 0
  pub both-wide : wide (bit 1 ∷ octet 0xAA ∷ bit 0 ∷ []) ≡ 10
  -- from a place to an octet edge (rule 5.3)
  pub gaps : map gap (0 ∷ 1 ∷ 4 ∷ 7 ∷ 8 ∷ 9 ∷ 15 ∷ 16 ∷ []) ≡ 0 ∷ 7 ∷ 4 ∷ 1 ∷ 0 ∷ 7 ∷ 1 ∷ 0 ∷ []
  -- eight bits make an octet, the first one its highest (rule 5.1); an octet stays as it is
  pub eight : in_octets (bit 1 ∷ bit 0 ∷ bit 1 ∷ bit 0 ∷ bit 0 ∷ bit 1 ∷ bit 0 ∷ bit 1 ∷ octet 0x0F ∷ []) ≡ 0xA5 ∷ 0x0F ∷ []
  pub octet-first : in_octets (octet 0x0F ∷ spelt 8 0xA5) ≡ 0x0F ∷ 0xA5 ∷ []
  pub sixteen : in_octets (spelt 16 0x1234) ≡ 0x12 ∷ 0x34 ∷ []
  pub more : packed 5 3 (spelt 5 1) ≡ 0xA1 ∷ []
  pub nothing : in_octets [] ≡ []

pub record FormatCases : Type 0 where
  -- each part, spelt: a flag, a number, and zero bits to an octet edge (rules 5.1 and 5.3)
  pub flag-set : flag.spelling true 0 ≡ bit 1 ∷ []
  pub flag-clear : flag.spelling false 0 ≡ bit 0 ∷ []
  pub nine : (bits 4).spelling 9 3 ≡ bit 1 ∷ bit 0 ∷ bit 0 ∷ bit 1 ∷ []
  pub padding : align.spelling tt 5 ≡ bit 0 ∷ bit 0 ∷ bit 0 ∷ []
  pub no-padding : align.spelling tt 8 ≡ []
  -- the octet of a place takes no bits
  pub octet-2 : here.read [] 0 16 ≡ found 2 16
  pub octet-2-last : here.read [] 0 23 ≡ found 2 23
  pub octet-unspelt : here.spelling 2 23 ≡ []
  -- octets from an octet edge on, behind zero bits (rules 5.3 and 6.8)
  pub two-octets : (octets 2).read (0xC0 ∷ 0xAA ∷ 0xBB ∷ []) 0 2 ≡ found (0xAA ∷ 0xBB ∷ []) 24
  pub two-padding : (octets 2).read (0xC1 ∷ 0xAA ∷ 0xBB ∷ []) 0 2 ≡ stopped_at 0 5
  pub two-missing : (octets 2).read (0xC0 ∷ 0xAA ∷ []) 0 2 ≡ stopped_at 1 1
  pub two-spelt : (octets 1).spelling (0xAA ∷ []) 6 ≡ bit 0 ∷ bit 0 ∷ octet 0xAA ∷ []
  -- a number in two octets, the high one first: 1 if they are not there, then 4 over its size (rule 6.9)
  pub number-258 : (two_octets 258).read (0x01 ∷ 0x02 ∷ []) 0 0 ≡ found 258 16
  pub number-over : (two_octets 258).read (0xFF ∷ 0x01 ∷ 0x03 ∷ []) 0 8 ≡ stopped_at 1 4
  pub number_cut : (two_octets 258).read (0xFF ∷ []) 0 0 ≡ stopped_at 0 1
  pub number-512 : (two_octets 65535).spelling 512 0 ≡ octet 0x02 ∷ octet 0x00 ∷ []
  pub number-510 : (two_octets 65535).spelling 510 0 ≡ octet 0x01 ∷ octet 0xFE ∷ []
  -- a count by the length rule, within its sizes (rules 3.1 to 3.6)
  pub count-16 : (length_rule 1 16).read (0x00 ∷ 0x10 ∷ []) 0 8 ≡ found 16 16
  pub count-200 : (length_rule 1 200).read (0x80 ∷ 0xC8 ∷ []) 0 0 ≡ found 200 16
  pub count-17 : (length_rule 1 16).read (0x00 ∷ 0x11 ∷ []) 0 8 ≡ stopped_at 1 4
  pub count-0 : (length_rule 1 16).read (0x00 ∷ 0x00 ∷ []) 0 8 ≡ stopped_at 1 4
  pub count-form : (length_rule 1 16).read (0x00 ∷ 0x80 ∷ 0x10 ∷ []) 0 8 ≡ stopped_at 1 3
  pub count-spelt : (length_rule 1 200).spelling 200 7 ≡ bit 0 ∷ octet 0x80 ∷ octet 0xC8 ∷ []
  -- what is known takes no bits
  pub known-7 : (known {A = ℕ} 7).read (0xFF ∷ []) 0 3 ≡ found 7 3
  pub known-unspelt : (known {A = ℕ} 7).spelling 7 3 ≡ []
  -- a test that fails is refused with its number, at the item that it is in (rule 2.27); the item is the octet of its first bit (rule 5.7)
  pub three : (guarded (numbered 12) (λ v. ltb v 4) (bits 3)).read (0x07 ∷ []) 0 3 ≡ found 1 6
  pub seven : (item (guarded (numbered 12) (λ v. ltb v 4) (bits 3))).read (0x00 ∷ 0x07 ∷ []) 0 13 ≡ stopped_at 1 12
  pub demanded : (demand (numbered 14) true).read [] 2 20 ≡ found tt 20
  pub not-demanded : (demand (numbered 14) false).read [] 2 20 ≡ stopped_at 2 14
  pub demand-unspelt : (demand (numbered 14) true).spelling tt 0 ≡ []
  -- one after the other, the second from where the first ends (rule 5.6)
  pub then : (bits 3 ⊳ λ n. bits n).read (0x58 ∷ []) 0 0 ≡ found (2, 3) 5
  pub then-spelt : (bits 3 ⊳ λ n. bits n).spelling (2, 3) 0 ≡ bit 0 ∷ bit 1 ∷ bit 0 ∷ bit 1 ∷ bit 1 ∷ []
  pub then-padded : (flag ⊳ λ _. align).spelling (true, tt) 5 ≡ bit 1 ∷ bit 0 ∷ bit 0 ∷ []
  -- as values of another type, and back
  pub read_as : (made (ltb 1) (λ b. 2) (bits 2)).read (0x80 ∷ []) 0 0 ≡ found true 2
  pub spelt-as : (made (ltb 1) (λ b. 2) (bits 2)).spelling true 0 ≡ bit 1 ∷ bit 0 ∷ []
  -- some of the same, each from where the one before ends (rule 5.6)
  pub pairs : (sequence_of 2 (bits 2)).read (0x1B ∷ []) 0 2 ≡ found (1 ∷ 2 ∷ []) 6
  pub pairs-spelt : (sequence_of 2 (bits 2)).spelling (1 ∷ 2 ∷ []) 0 ≡ bit 0 ∷ bit 1 ∷ bit 1 ∷ bit 0 ∷ []
  pub each-padded : (sequence_of 2 (octets 1)).spelling ((0xAA ∷ []) ∷ (0xBB ∷ []) ∷ []) 7 ≡ bit 0 ∷ octet 0xAA ∷ octet 0xBB ∷ []

-- what may be spelt at a place: a number that its bits hold, as many octets as are named, a number within its sizes
pub record FitsCases : Type 0 where
  pub bits-15 : (bits 4).fits 15 0
  pub bits-16 : (bits 4).fits 16 0 → ⊥
  pub octet-2 : here.fits 2 16
  pub octet-2-last : here.fits 2 23
  pub two-octets : (octets 2).fits (0xAA ∷ 0xBB ∷ []) 0
  pub three-octets : (octets 2).fits (0xAA ∷ 0xBB ∷ 0xCC ∷ []) 0 → ⊥
  pub number-258 : (two_octets 258).fits 258 0
  pub number-259 : (two_octets 258).fits 259 0 → ⊥
  pub count-16 : (length_rule 1 16).fits 16 0
  pub tested : (guarded (numbered 12) (λ v. ltb v 4) (bits 3)).fits 3 0
  pub pairs : (sequence_of 2 (bits 2)).fits (1 ∷ 2 ∷ []) 0

pub record PlacesCases : Type 0 where
  -- four bits from each place of A5 C3 on, in the low half of an octet and across two (rules 5.1 and 5.6)
  pub four-bits : map (bits_at 4 (0xA5 ∷ 0xC3 ∷ [])) (0 ∷ 1 ∷ 3 ∷ 4 ∷ 6 ∷ 7 ∷ 8 ∷ 12 ∷ []) ≡ 10 ∷ 4 ∷ 2 ∷ 5 ∷ 7 ∷ 14 ∷ 12 ∷ 3 ∷ []
  pub nine-bits : bits_at 9 (0x01 ∷ 0xFF ∷ []) 7 ≡ 0x1FF
  pub later : bits_at 4 (0xA5 ∷ 0xC3 ∷ 0x0F ∷ []) 14 ≡ 12
  pub nine-later : bits_at 9 (0xA5 ∷ 0xC3 ∷ 0x0F ∷ 0xF0 ∷ []) 17 ≡ 0x3F
  -- zeros behind the last octet
  pub past-last : bits_at 9 (0x01 ∷ []) 7 ≡ 0x100
  pub none-there : bits_at 8 [] 0 ≡ 0
  pub no_bits : bits_at 0 (0xFF ∷ []) 4 ≡ 0
  -- how many octets there are up to an octet edge (rule 5.3)
  pub edges : map edge (0 ∷ 1 ∷ 7 ∷ 8 ∷ 9 ∷ 16 ∷ []) ≡ 0 ∷ 1 ∷ 1 ∷ 1 ∷ 2 ∷ 2 ∷ []
  pub padded : edge_at (0x00 ∷ 0xE0 ∷ []) 11 ≡ done 2
  pub at_edge : edge_at (0xFF ∷ 0xFF ∷ []) 8 ≡ done 1
  -- a bit set there is 5, at the octet of the padding (rules 5.4 and 5.5)
  pub first-set : edge_at (0x00 ∷ 0xF0 ∷ []) 11 ≡ refuse_at 1 (numbered 5)
  pub last_set : edge_at (0x00 ∷ 0xE1 ∷ []) 11 ≡ refuse_at 1 (numbered 5)
  pub set-at-1 : edge_at (0x00 ∷ 0x03 ∷ 0x00 ∷ []) 14 ≡ refuse_at 1 (numbered 5)
  pub set-at-2 : edge_at (0x00 ∷ 0x00 ∷ 0x81 ∷ []) 17 ≡ refuse_at 2 (numbered 5)
  pub nothing : edge_at [] 3 ≡ done 1

pub record WaitingCases : Type 0 where
  -- 101, then 1001: seven bits wait for the rest of their octet (rule 5.6)
  pub none : none_wait ≡ record { width = 0; value = 0 }
  pub seven : joined (waiting 3 5) 4 9 ≡ record { width = 7; value = 0x59 }
  pub seven-wait : full_octets (waiting 7 0x59) ≡ []
  pub seven-left : left (waiting 7 0x59) ≡ waiting 7 0x59
  -- eight fill an octet, and of ten two are left
  pub eight : full_octets (waiting 8 0xA5) ≡ 0xA5 ∷ []
  pub eight-left : left (waiting 8 0xA5) ≡ waiting 0 0
  pub ten : full_octets (waiting 10 0x297) ≡ 0xA5 ∷ []
  pub ten-left : left (waiting 10 0x297) ≡ waiting 2 3
  -- zero bits to an octet edge, none where none wait (rule 5.3)
  pub closed_none : closed (waiting 0 0) ≡ []
  pub closed-one : closed (waiting 1 1) ≡ 0x80 ∷ []
  pub closed-three : closed (waiting 3 5) ≡ 0xA0 ∷ []
  -- at most seven bits wait, and they make a number that they hold
  pub most : Waits (waiting 7 127)
  pub eight-wait : Waits (waiting 8 0) → ⊥
  pub over : Waits (waiting 3 8) → ⊥

pub record Cases : Type 0 where
  pub reading_cases : ReadingCases
  pub spelling_cases : SpellingCases
  pub format_cases : FormatCases
  pub fits_cases : FitsCases
  pub places_cases : PlacesCases
  pub waiting_cases : WaitingCases
