-- What the readers of a packet's start owe: what the description finds there (rules 6.1, 6.2 and 8.1). What `read` owes is the packet
-- reader's own promise, `ReadBy`, and in one edition its `NamedTold` (rule 8.2). Definitions only.
use Rattle.std.specs.Prelude.{Result, Ok, Err, ℕ, ◌≡◌, Bool, cond, List, [], map}
use Rattle.format.specs.Reading.{Finding, found, stopped}
use Rattle.format.specs.Format.{known}
use Rattle.format.specs.Places.{Place}
use Rattle.packet.specs.Edition.{edition_of, values}
use Rattle.packet.specs.Packet.{First, chosen, field_of}
use Rattle.packet.specs.Packet as description
use Rattle.packet.specs.declared.types.Named.{Named}
use Rattle.packet_pencil.specs.Bits.{found_as}
use Rattle.packet_pencil.specs.Fields.{fields_taken}
use Rattle.packet_pencil.specs.declared.fields.Fields.{Fields}
use Rattle.packet_pencil.specs.declared.whole.First as declared
use Rattle.length.specs.declared.Refusal.{Refusal}

abbrev pub first_found : Result declared.First Refusal → Finding First
first_found (Ok x) = found (record { kind = x.kind; value = x.value; present = x.present }) x.next
first_found (Err r) = stopped r

-- a value of the chosen kind, behind the bit for a data field
abbrev pub first_with : Bool → Bool → ℕ → First
first_with present is_data v = record { kind = chosen is_data; value = v; present = present }

pub record ChosenTaken (named : Named) (present is_data : Bool) (octets : List ℕ) (i : ℕ) (p : Place) (r : Result declared.First Refusal) : Type 0 where
  pub answer : found_as (first_with present is_data) ((description.enumerated (values (edition_of named) (chosen is_data))).read octets i p)
      ≡ first_found r

pub record TypeTaken (named : Named) (octets : List ℕ) (i : ℕ) (p : Place) (r : Result declared.First Refusal) : Type 0 where
  pub answer : (description.type_of_msg (edition_of named)).read octets i p ≡ first_found r

pub record StartTaken (named : Named) (octets : List ℕ) (p : Place) (r : Result declared.First Refusal) : Type 0 where
  pub answer : (i : ℕ) → (description.start (edition_of named)).read octets i p ≡ first_found r

-- the data field, if there is one (rule 6.4)
pub record AfterTaken (named : Named) (present : Bool) (octets : List ℕ) (p : Place) (r : Result Fields Refusal) : Type 0 where
  pub answer : (i : ℕ)
      → r ≡ fields_taken (found_as (map field_of) ((cond present (description.data_field (edition_of named)) (known [])).read octets i p))
