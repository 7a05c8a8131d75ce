-- What this crate's functions owe each other: the answer of each item reader, as `Octets` of `packet_laws` says, up to the packet in one
-- edition (`NamedTold`), which the second reader owes too. What `read` promises its caller is in `packet` (`ReadBy`). Definitions only.
use Rattle.std.specs.Prelude.{Result, Ok, Err, ℕ, ◌+◌, ◌*◌, ◌^◌, ◌≤◌, ◌<◌, ◌≡◌, Bool, true, cond, List, [], length, get_or}
use Rattle.length.specs.Refusals.{wrong_data}
use Rattle.length.specs.Answers.{Answer, done, refused, refuse, refuse_at, ◌>>=◌}
use Rattle.format.specs.Places.{Place, bits_at, edge_at}
use Rattle.datagram.specs.Sizes.{packet_limit}
use Rattle.packet.specs.Edition.{edition_of, carries, allows}
use Rattle.packet.specs.declared.types.Enumerated.{Enumerated}
use Rattle.packet_laws.specs.Octets.{bit_set_at, kind_of, Narrow, Value, plain_width, root_at, added_at, value_at, FirstAnswer, first_at}
use Rattle.packet_laws.specs.Octets.{Count, count_at, HeaderAnswer, header_at, size_at, FieldAnswer, after_header, field_at}
use Rattle.packet_laws.specs.Octets.{FieldsAnswer, fields_at, end_at}
use Rattle.packet.specs.Packet.{right_fields, read_packet}
use Rattle.packet.specs.Promise.{PacketTold, padded_fields}
use Rattle.packet.specs.declared.types.Ending.{Ending}
use Rattle.packet.specs.declared.types.PacketKind.{PacketKind}
use Rattle.packet.specs.declared.types.Named.{Named}
use Rattle.packet.specs.declared.types.PacketRead.{PacketRead}
use Rattle.packet.specs.declared.types.Field.{Field}
use Rattle.length.specs.declared.Refusal.{Refusal}
use Rattle.packet_reader.specs.declared.items.First.{First}
use Rattle.packet_reader.specs.declared.items.Header.{Header}
use Rattle.packet_reader.specs.declared.reader.FieldsRead.{FieldsRead}

-- what a reader of an item returned, with what it read in the words of the definitions
abbrev pub outcome : {A B : Type 0} → (A → B) → Result A Refusal → Answer B
outcome said (Ok a) = done (said a)
outcome said (Err r) = refused r

-- ---- places
-- a place inside the octets of a packet, or at their end
pub record InPacket (octets : List ℕ) (p : Place) : Type 0 where
  pub few : length octets ≤ packet_limit
  pub here : p ≤ 8 * length octets

-- a place in them, or at most this many bits behind their end
pub record NearPacket (over : ℕ) (octets : List ℕ) (p : Place) : Type 0 where
  pub few : length octets ≤ packet_limit
  pub near : p ≤ 8 * length octets + over

-- an octet of them, or their end
pub record OctetIn (octets : List ℕ) (at : ℕ) : Type 0 where
  pub few : length octets ≤ packet_limit
  pub here : at ≤ length octets

-- a power of two
pub record Power (n r : ℕ) : Type 0 where
  pub is : r ≡ 2 ^ n
  pub some : 0 < r

-- an octet, and zero past the last one
pub record OctetAt (octets : List ℕ) (at r : ℕ) : Type 0 where
  pub same : r ≡ get_or octets at 0
  pub small : r < 256

pub record BitTold (octets : List ℕ) (p : Place) (r : Bool) : Type 0 where
  pub answer : r ≡ bit_set_at octets p

pub record BitsTold (n : ℕ) (octets : List ℕ) (p : Place) (r : ℕ) : Type 0 where
  pub answer : r ≡ bits_at n octets p

pub record EdgeTold (octets : List ℕ) (p : Place) (r : Result ℕ Refusal) : Type 0 where
  pub answer : outcome (λ at. at) r ≡ edge_at octets p

-- ---- a value
abbrev pub value_outcome : Result (ℕ × ℕ) Refusal → Answer Value
value_outcome r = outcome (λ x. record { value = x.0; next = x.1 }) r

pub record PlainTold (e : Enumerated) (r : ℕ) : Type 0 where
  pub narrow : Narrow e
  pub few : r ≤ 7
  pub answer : r ≡ plain_width e

pub record RootTold (e : Enumerated) (item : ℕ) (octets : List ℕ) (p : Place) (r : Result (ℕ × ℕ) Refusal) : Type 0 where
  pub answer : value_outcome r ≡ root_at e item octets p

pub record AddedTold (e : Enumerated) (item : ℕ) (octets : List ℕ) (p : Place) (r : Result (ℕ × ℕ) Refusal) : Type 0 where
  pub answer : value_outcome r ≡ added_at e item octets p

pub record ValueTold (e : Enumerated) (item : ℕ) (octets : List ℕ) (p : Place) (r : Result (ℕ × ℕ) Refusal) : Type 0 where
  pub answer : value_outcome r ≡ value_at e item octets p

-- ---- items
abbrev pub first_outcome : Result First Refusal → Answer FirstAnswer
first_outcome r =
    outcome (λ x. record { first = record { kind = x.kind; value = x.value; present = x.present }; octets = x.octets }) r

-- what follows the first value
abbrev pub after_first : List ℕ → PacketKind → Value → Answer FirstAnswer
after_first input kind v = do
  at ← edge_at input v.next
  cond (right_fields kind (bit_set_at input 0))
      (done (record { first = record { kind = kind; value = v.value; present = bit_set_at input 0 }; octets = at }))
      (refuse wrong_data)

pub record AfterFirst (octets : List ℕ) (kind : PacketKind) (value : ℕ) (p : Place) (r : Result First Refusal) : Type 0 where
  pub answer : first_outcome r ≡ after_first octets kind (record { value = value; next = p })

-- the kind of the first item of a packet
pub record FirstHere (octets : List ℕ) (kind : PacketKind) : Type 0 where
  pub few : length octets ≤ packet_limit
  pub is : kind ≡ kind_of octets

pub record FirstTold (named : Named) (octets : List ℕ) (r : Result First Refusal) : Type 0 where
  pub answer : first_outcome r ≡ first_at (edition_of named) octets

abbrev pub count_outcome : Result (ℕ × ℕ) Refusal → Answer Count
count_outcome r = outcome (λ x. record { value = x.0; next = x.1 }) r

pub record CountTold (octets : List ℕ) (at : ℕ) (present : Bool) (r : Result (ℕ × ℕ) Refusal) : Type 0 where
  pub answer : count_outcome r ≡ count_at octets at present

abbrev pub header_outcome : Result Header Refusal → Answer HeaderAnswer
header_outcome r = outcome (λ x. record { header = record { type = x.kind; present = x.present }; next = x.next }) r

-- what follows a field's type
abbrev pub after_type : ℕ → ℕ → Bool → Place → Answer HeaderAnswer
after_type item kind present p =
    cond (allows (carries kind) present) (done (record { header = record { type = kind; present = present }; next = p }))
    (refuse_at item wrong_data)

pub record AfterType (item kind : ℕ) (present : Bool) (p : Place) (r : Result Header Refusal) : Type 0 where
  pub answer : header_outcome r ≡ after_type item kind present p

pub record HeaderTold (named : Named) (octets : List ℕ) (p : Place) (r : Result Header Refusal) : Type 0 where
  pub answer : header_outcome r ≡ header_at (edition_of named) octets p

pub record SizeTold (octets : List ℕ) (r : Result ℕ Refusal) : Type 0 where
  pub answer : outcome (λ n. n) r ≡ size_at octets

abbrev pub field_outcome : Result (Field × ℕ) Refusal → Answer FieldAnswer
field_outcome r = outcome (λ x. record { field = x.0; next = x.1 }) r

-- what follows a header with data
pub record DataTold (octets : List ℕ) (kind : ℕ) (p : Place) (r : Result (Field × ℕ) Refusal) : Type 0 where
  pub answer : field_outcome r ≡ after_header octets (record { header = record { type = kind; present = true }; next = p })

pub record FieldTold (named : Named) (octets : List ℕ) (p : Place) (r : Result (Field × ℕ) Refusal) : Type 0 where
  pub answer : field_outcome r ≡ field_at (edition_of named) octets p

-- ---- all fields, and the end
abbrev pub fields_read : Answer FieldsAnswer → Result FieldsRead Refusal
fields_read (done a) = Ok (record { fields = padded_fields a.fields; next = a.next })
fields_read (refused r) = Err r

pub record FieldsTold (named : Named) (count : ℕ) (octets : List ℕ) (p : Place) (r : Result FieldsRead Refusal) : Type 0 where
  pub answer : r ≡ fields_read (fields_at (edition_of named) count octets p)

pub record EndTold (ending : Ending) (octets : List ℕ) (p : Place) (r : Result (Unit {0}) Refusal) : Type 0 where
  pub answer : outcome (λ u. u) r ≡ end_at ending octets p tt

-- ---- the packet, in the edition that was named
pub record NamedTold (named : Named) (ending : Ending) (octets : List ℕ) (r : Result PacketRead Refusal) : Type 0 where
  pub told : PacketTold (read_packet (edition_of named) ending octets) r
