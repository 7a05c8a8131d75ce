-- What the readers of a field and of all fields owe: what the description finds there (rules 6.7, 6.8 and 8.1). Definitions only.
use Rattle.std.specs.Prelude.{Result, Ok, Err, Bool, ℕ, ◌/◌, ◌≡◌, List, [], map, length}
use Rattle.format.specs.Reading.{Finding, found, stopped}
use Rattle.format.specs.Reading as reading
use Rattle.format.specs.Places.{Place}
use Rattle.packet.specs.Edition.{edition_of}
use Rattle.packet.specs.Packet.{field_of}
use Rattle.packet.specs.Packet as description
use Rattle.packet.specs.Promise.{padded_fields}
use Rattle.packet.specs.declared.types.Field.{Field}
use Rattle.packet.specs.declared.types.Named.{Named}
use Rattle.length.specs.declared.Refusal.{Refusal}
use Rattle.packet_pencil.specs.Bits.{finding, found_as}
use Rattle.packet_pencil.specs.declared.fields.Fields.{Fields}

abbrev pub header_found : Result (ℕ × Bool × ℕ) Refusal → Finding description.Header
header_found (Ok x) = found (record { type = x.0; present = x.1 }) x.2
header_found (Err r) = stopped r

-- the item begins with the header, in the octet of its first bit (rule 5.7)
pub record HeaderTaken (named : Named) (octets : List ℕ) (p : Place) (r : Result (ℕ × Bool × ℕ) Refusal) : Type 0 where
  pub answer : (description.header (edition_of named)).read octets (p / 8) p ≡ header_found r

-- a field, by where its data begins and how long it is
abbrev pub field_found : Named → List ℕ → ℕ → Place → Finding Field
field_found named octets i p = found_as field_of ((description.field (edition_of named)).read octets i p)

pub record FieldTaken (named : Named) (octets : List ℕ) (p : Place) (r : Result (Field × ℕ) Refusal) : Type 0 where
  pub answer : (i : ℕ) → field_found named octets i p ≡ finding r

-- n fields, one after the other
abbrev pub fields_found : Named → ℕ → List ℕ → ℕ → Place → Finding (List Field)
fields_found named n octets i p = found_as (map field_of) (reading.sequence_of n (description.field (edition_of named)).read octets i p)

-- the fields that were found are in the first places, in order; the others are zero (rule 6.27)
abbrev pub fields_taken : Finding (List Field) → Result Fields Refusal
fields_taken (found fields p) = Ok (record { count = length fields; fields = padded_fields fields; next = p })
fields_taken (stopped r) = Err r

pub record SequenceTaken (named : Named) (n : ℕ) (octets : List ℕ) (p : Place) (r : Result Fields Refusal) : Type 0 where
  pub answer : (i : ℕ) → r ≡ fields_taken (fields_found named n octets i p)

pub record FieldsTaken (named : Named) (octets : List ℕ) (p : Place) (r : Result Fields Refusal) : Type 0 where
  pub answer : (i : ℕ) → r ≡ fields_taken (found_as (map field_of) ((description.data_field (edition_of named)).read octets i p))
