-- What the functions of `packet_writer` owe each other: what is measured, what has room, and what the buffer then holds. Definitions only.
use Rattle.std.specs.Prelude.{ℕ, ◌+◌, ◌-◌, ◌*◌, ◌^◌, ◌<◌, ◌≤◌, ◌≡◌, Bool, true, List, length, leb, Result}
use Rattle.length.specs.declared.Refusal.{Refusal}
use Rattle.length.specs.Answers.{done, written_outcome, size_of}
use Rattle.length.specs.Promise.{Put}
use Rattle.datagram.specs.Sizes.{packet_limit}
use Rattle.packet.specs.Edition.{many, edition_of}
use Rattle.packet.specs.Packet.{First, fields_limit, every}
use Rattle.packet.specs.Write.{lengths_sum, all_assigned, right_types, all_right, packet_to_write}
use Rattle.format.specs.Format.{flag_bit}
use Rattle.format.specs.Places.{Place}
use Rattle.format.specs.Waiting.{Waiting, waiting, none_wait, Waits, joined, full_octets, left, closed}
use Rattle.packet_laws.specs.Octets.{Narrow}
use Rattle.packet_laws.specs.Laid.{value_width, first_octets, header_octets, header_left, field_octets, after_field, fields_octets}
use Rattle.packet_laws.specs.Laid.{counted_fields, laid_octets, past_field, past_fields, packet_size}
use Rattle.packet.specs.declared.types.PacketKind.{PacketKind}
use Rattle.packet.specs.declared.types.Named.{Named}
use Rattle.packet.specs.declared.types.Enumerated.{Enumerated}

-- ---- writing: sizes
-- a length as a size
pub record Wide (length r : ℕ) : Type 0 where
  pub same : r ≡ length
  pub small : r < 65536

-- a bit
pub record BitIs (set : Bool) (r : ℕ) : Type 0 where
  pub same : r ≡ flag_bit set
  pub few : r ≤ 1

-- how many bits a value takes (rules 6.2, 6.7 and 7.5)
pub record ValueWide (e : Enumerated) (value r : ℕ) : Type 0 where
  pub same : r ≡ value_width e value
  pub few : r ≤ 8

-- each of as many fields as there are types has data or not, as its type may, alike in both editions (rules 6.10 and 7.10)
pub record TypesRight (types lengths : List ℕ) (r : Bool) : Type 0 where
  pub so : (named : Named) → r ≡ right_types (edition_of named) types lengths

-- the place after a field, and after some fields, with a bound that keeps it within one number
pub record FieldPast (e : Enumerated) (p : Place) (kind size r : ℕ) : Type 0 where
  pub answer : r ≡ past_field e p kind size
  pub small : r ≤ p + 524328

-- types and lengths from which the place is found
pub record PastFits (e : Enumerated) (from : Place) (types lengths : List ℕ) : Type 0 where
  pub narrow : Narrow e
  pub near : from ≤ 24
  pub few : length types ≤ fields_limit
  pub same : length types ≡ length lengths

pub record FieldsPast (e : Enumerated) (p : Place) (types lengths : List ℕ) (r : ℕ) : Type 0 where
  pub answer : r ≡ past_fields e p types lengths
  pub small : r ≤ p + fields_limit * 524328

-- whether it is not 12, whether it is not 14, how many octets it has, and what is to be written, measured (rule 6.20)
pub record AllAssigned (named : Named) (kind : PacketKind) (value : ℕ) (types : List ℕ) (r : Bool) : Type 0 where
  pub so : r ≡ all_assigned (edition_of named) kind value types

pub record AllRight (named : Named) (kind : PacketKind) (types lengths : List ℕ) (r : Bool) : Type 0 where
  pub so : r ≡ all_right (edition_of named) kind types lengths

pub record PacketSized (named : Named) (kind : PacketKind) (value : ℕ) (types lengths : List ℕ) (r : ℕ) : Type 0 where
  pub so : r ≡ packet_size (edition_of named) kind value types lengths

pub record Measured (named : Named) (kind : PacketKind) (value : ℕ) (types lengths octets : List ℕ) (r : Result ℕ Refusal) : Type 0 where
  pub answer : written_outcome r ≡ size_of (packet_to_write (edition_of named) kind value types lengths octets)

-- ---- writing: what has room
-- room for bits after those that wait, for the octet edge after them, for some data, and for a field
pub record BitsFit (w : Waiting) (n bits : ℕ) (old : List ℕ) : Type 0 where
  pub waits : Waits w
  pub few : n ≤ 8
  pub small : bits < 2 ^ n
  pub room : length (full_octets (joined w n bits)) ≤ length old

pub record EdgeFits (w : Waiting) (old : List ℕ) : Type 0 where
  pub waits : Waits w
  pub room : length (closed w) ≤ length old

pub record DataFits (octets old : List ℕ) : Type 0 where
  pub some : 1 ≤ length octets
  pub short : length octets ≤ packet_limit
  pub room : 2 + length octets ≤ length old

-- a value that the ENUMERATED type has
pub record ValueKnown (e : Enumerated) (value : ℕ) : Type 0 where
  pub narrow : Narrow e
  pub known : value < many e

pub record FirstFits (e : Enumerated) (first : First) (old : List ℕ) : Type 0 where
  pub value : ValueKnown e first.value
  pub room : length (first_octets e first) ≤ length old

pub record HeaderFits (e : Enumerated) (w : Waiting) (kind : ℕ) (present : Bool) (old : List ℕ) : Type 0 where
  pub waits : Waits w
  pub type : ValueKnown e kind
  pub room : length (header_octets e w kind present) ≤ length old

pub record FieldFits (e : Enumerated) (w : Waiting) (kind : ℕ) (octets old : List ℕ) : Type 0 where
  pub waits : Waits w
  pub type : ValueKnown e kind
  pub short : length octets ≤ packet_limit
  pub room : length (field_octets e w kind octets) ≤ length old

-- what is put after the bits that wait: the octets that are filled, and what waits then (rule 5.6)
pub record PutAfter (octets : List ℕ) (next : Waiting) (old new : List ℕ) (size width value : ℕ) : Type 0 where
  pub put : Put octets old new size
  pub waits : waiting width value ≡ next

abbrev pub BitsPut : Waiting → ℕ → ℕ → List ℕ → List ℕ → ℕ → ℕ → ℕ → Type 0
BitsPut w n bits old new size width value = PutAfter (full_octets (joined w n bits)) (left (joined w n bits)) old new size width value

abbrev pub HeaderPut : Enumerated → Waiting → ℕ → Bool → List ℕ → List ℕ → ℕ → ℕ → ℕ → Type 0
HeaderPut e w kind present old new size width value =
    PutAfter (header_octets e w kind present) (header_left e w kind present) old new size width value

abbrev pub FieldPut : Enumerated → Waiting → ℕ → List ℕ → List ℕ → List ℕ → ℕ → ℕ → ℕ → Type 0
FieldPut e w kind octets old new size width value =
    PutAfter (field_octets e w kind octets) (after_field e w kind octets) old new size width value

-- types, lengths and data from which fields can be put
pub record FieldsRight (e : Enumerated) (types lengths octets : List ℕ) : Type 0 where
  pub narrow : Narrow e
  pub same : length types ≡ length lengths
  pub all : lengths_sum lengths ≡ length octets
  pub known : every (λ t. leb t (many e - 1)) types ≡ true
  pub short : every (λ n. leb n packet_limit) lengths ≡ true

pub record FieldsFit (e : Enumerated) (types lengths octets old : List ℕ) : Type 0 where
  pub right : FieldsRight e types lengths octets
  pub room : length (fields_octets e none_wait types lengths octets) ≤ length old

pub record CountedFit (e : Enumerated) (types lengths octets old : List ℕ) : Type 0 where
  pub few : length types ≤ fields_limit
  pub right : FieldsRight e types lengths octets
  pub room : length (counted_fields e types lengths octets) ≤ length old

-- what is not refused, and has room
pub record PacketFits (named : Named) (kind : PacketKind) (value : ℕ) (types lengths octets old : List ℕ) : Type 0 where
  pub allowed : packet_to_write (edition_of named) kind value types lengths octets
      ≡ done (laid_octets (edition_of named) kind value types lengths octets)
  pub room : length (laid_octets (edition_of named) kind value types lengths octets) ≤ length old
