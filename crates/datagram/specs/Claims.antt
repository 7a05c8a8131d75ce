-- The claims of this crate: round trips (rules 4.20 and 4.21), the sizes of an accepted datagram's parts, and one outcome; and the
-- definitions that they use. Definitions only.
use Rattle.std.specs.Prelude.{ℕ, ◌+◌, ◌≤◌, ◌<◌, ◌≡◌, true, length, get_or, Result, Ok}
use mathlib.Core.List.{List, [], ◌∷◌, map, flatten}
use Rattle.length.specs.Refusals.{ends_early, bad_form, spare_bit, left_over}
use Rattle.length.specs.Answers.{done, refuse_at}
use Rattle.length.specs.Claims.{Octets}
use Rattle.datagram.specs.Sizes.{packet_least, packet_limit}
use Rattle.datagram.specs.Carried.{Carried}
use Rattle.datagram.specs.Write.{count_inside, carried_of, datagram_to_write}
use Rattle.datagram.specs.Read.{DatagramParts, least_of, most_of, octets_of, read_datagram, carried_by}
use Rattle.datagram.specs.Promise.{DatagramReads, nowhere}
use Rattle.datagram.specs.declared.reader.Part.{Part}
use Rattle.length.specs.declared.Refusal.{Refusal}
use Rattle.datagram.specs.declared.reader.DatagramRead.{DatagramRead}
use Rattle.datagram.specs.declared.kind.Kind.{Kind}

-- ---- round trips

-- reading `octets` gives a datagram that carries c
pub record ReadsAs (octets : List ℕ) (c : Carried) : Type 0 where
  pub parts : DatagramParts
  pub read : read_datagram octets ≡ done parts
  pub carried : carried_by octets parts ≡ c

-- rule 4.20: what the writer writes reads back to the same number, packet, and spares or n and messages
abbrev pub WrittenReads : Type 0
WrittenReads = (number : ℕ) (packet : List ℕ) (k : Kind) (lengths run octets : List ℕ)
    → datagram_to_write number packet k lengths run ≡ done octets
    → ReadsAs octets (carried_of number packet k lengths run)

-- the spares or messages of a reading, in the writer's form: their lengths, and one run of data (rule 4.17)
abbrev pub lengths_of : DatagramParts → List ℕ
lengths_of d = map (λ (p : Part). p.size) d.items

abbrev pub run_of : List ℕ → DatagramParts → List ℕ
run_of octets d = flatten (map (octets_of octets) d.items)

-- rule 4.21: what the reader read writes back to the same octets
abbrev pub ReadWrites : Type 0
ReadWrites = (octets : List ℕ) (d : DatagramParts) → Octets octets → read_datagram octets ≡ done d
    → datagram_to_write d.number (octets_of octets d.packet) d.kind (lengths_of d) (run_of octets d) ≡ done octets

-- ---- the parts of an accepted datagram

-- a part has from least to most octets and lies within `octets`
pub record PartInside (least most : ℕ) (octets : List ℕ) (p : Part) : Type 0 where
  pub low : least ≤ p.size
  pub high : p.size ≤ most
  pub inside : p.start + p.size ≤ length octets

-- the newest packet, n and the count, and each spare or message are within the sizes (rules 4.9 to 4.11) and within `octets`
pub record Inside (octets : List ℕ) (packet : Part) (k : Kind) (count : ℕ) (items : List Part) : Type 0 where
  pub newest : PartInside packet_least packet_limit octets packet
  pub counted : count_inside k count ≡ true
  pub each : (j : ℕ) → j < count → PartInside (least_of k) (most_of k) octets (get_or items j nowhere)

abbrev pub AcceptedInside : Type 0
AcceptedInside = (octets : List ℕ) (r : Result DatagramRead Refusal) (d : DatagramRead) → DatagramReads octets r → r ≡ Ok d
    → Inside octets d.packet d.kind d.count d.items

-- ---- one outcome

-- two outcomes that a promise allows are equal (rule 28.14)
pub record OneOutcome : Type 0 where
  pub read : {octets : List ℕ} {r q : Result DatagramRead Refusal} → DatagramReads octets r → DatagramReads octets q → r ≡ q

-- ---- cases in which a mistake would look right

pub record Cases : Type 0 where
  -- rules 3.3 and 3.5: as the last octet C0 or more is 3, and 80 is 1
  pub last-c0 : read_datagram (0x00 ∷ 0x00 ∷ 0xC0 ∷ []) ≡ refuse_at 2 bad_form
  pub last-80 : read_datagram (0x00 ∷ 0x00 ∷ 0x80 ∷ []) ≡ refuse_at 2 ends_early
  -- rule 4.3: 81 is neither 00 nor 80
  pub low-bits : read_datagram (0x00 ∷ 0x00 ∷ 0x01 ∷ 0x06 ∷ 0x81 ∷ []) ≡ refuse_at 4 spare_bit
  -- rule 4.7: zeros left over are 6 too
  pub left_over_case : read_datagram (0x00 ∷ 0x00 ∷ 0x01 ∷ 0x06 ∷ 0x00 ∷ 0x00 ∷ 0x00 ∷ []) ≡ refuse_at 6 left_over

pub record Claims : Type 0 where
  pub written_reads : WrittenReads
  pub read_writes : ReadWrites
  pub accepted_inside : AcceptedInside
  pub one_outcome : OneOutcome
  pub cases : Cases
