-- A packet by the ASN.1 of an edition: one description, production by production, that defines both what is read and what is written (rules
-- 5.2 to 5.6, 6.1 to 6.10 and 7.5 to 7.9), with its items and their order of refusal (rules 2.27 to 2.29, 6.14 and 6.15). Then what a
-- packet reads as (rules 6.11 to 6.13). Definitions only.
use Rattle.std.specs.Prelude.{ℕ, ◌+◌, ◌-◌, ◌/◌, Bool, true, false, not, cond, ◌&&◌, List, [], ◌∷◌, ◌++◌, map, length, take, drop, leb, ltb, eqb}
use Rattle.length.specs.Refusals.{outside_sizes, left_over, not_assigned, wrong_data}
use Rattle.length.specs.Answers.{Answer, done, refused, refuse}
use Rattle.format.specs.Reading.{Finding, found, stopped, Reader, ◌>>=◌, give, check}
use Rattle.format.specs.Reading as reading
use Rattle.format.specs.Format.{Format, flag, bits, align, here, octets, two_octets, length_rule, known, item, guarded, demand, ◌⊳◌}
use Rattle.format.specs.Format.{made, sequence_of}
use Rattle.datagram.specs.Sizes.{packet_limit}
use Rattle.packet.specs.Edition.{Enumerated, many, added_width, Edition, allows, values}
use Rattle.packet.specs.declared.types.PacketKind.{PacketKind}
use Rattle.packet.specs.declared.types.PacketKind.TheVariants.{Indicator, Data}
use Rattle.packet.specs.declared.types.Ending.{Ending}
use Rattle.packet.specs.declared.types.Ending.TheVariants.{Whole, Repaired}
use Rattle.packet.specs.declared.types.Field.{Field}

-- ---- what a packet may hold
-- a packet has 0 to 16 fields (rule 1.8); where there is a count of them it is 1 to 16 (rule 6.4)
abbrev pub fields_least : ℕ
fields_least = 1

abbrev pub fields_limit : ℕ
fields_limit = 16

-- the highest field type
abbrev pub types_limit : Edition → ℕ
types_limit edition = many edition.types - 1

-- how many values a kind has, from 0 on
abbrev pub many_values : Edition → PacketKind → ℕ
many_values edition kind = many (values edition kind)

-- whether a packet of this kind may have a data field, or have none: an indicator never has one (rule 6.6)
abbrev pub right_fields : PacketKind → Bool → Bool
right_fields Indicator present = not present
right_fields Data present = true

-- whether a field of this type may have data, or have none (rules 6.10 and 7.10)
abbrev pub right_data : Edition → ℕ → Bool → Bool
right_data edition type present = allows (edition.rule type) present

-- ---- a value of an ENUMERATED type
-- one of those before the extension mark (rule 6.3)
unfoldable pub root : Enumerated → Format ℕ
root e = guarded not_assigned (λ v. ltb v e.assigned) (bits e.width)

-- one of those added after it, behind the 1 bit for extension: one 0 bit, then six bits counted from zero (rules 7.5 to 7.8)
unfoldable pub addition : Enumerated → Format ℕ
addition e =
    made (λ x. let counted = x.1.1 in e.assigned + counted) (λ v. (tt, (false, v - e.assigned)))
    (demand not_assigned (ltb 0 e.added)
    ⊳ λ _. guarded not_assigned not flag
    ⊳ λ _. guarded not_assigned (λ v. ltb v e.added) (bits added_width))

-- the bit for extension, where there is an extension mark (rules 6.2 and 7.9)
unfoldable pub enumerated : Enumerated → Format ℕ
enumerated e =
    made (λ x. x.1) (λ v. (leb e.assigned v, v))
    (cond e.extensible flag (known false)
    ⊳ λ extended. cond extended (addition e) (root e))

-- ---- Type-of-msg ::= CHOICE { t30-indicator, data }, behind the bit for data-field OPTIONAL
pub record First : Type 0 where
  pub kind : PacketKind
  pub value : ℕ
  pub present : Bool

abbrev pub chosen : Bool → PacketKind
chosen is_data = cond is_data Data Indicator

abbrev pub is_data : PacketKind → Bool
is_data Indicator = false
is_data Data = true

-- from its parts in their order, and back (rule 6.1)
abbrev pub type_of_msg_from : Bool × (Bool × ℕ) → First
type_of_msg_from parts =
    let present = parts.0 in
    let choice = parts.1.0 in
    let value = parts.1.1 in
    record { kind = chosen choice; value = value; present = present }

abbrev pub type_of_msg_parts : First → Bool × (Bool × ℕ)
type_of_msg_parts f = (f.present, (is_data f.kind, f.value))

unfoldable pub type_of_msg : Edition → Format First
type_of_msg edition =
    made type_of_msg_from type_of_msg_parts
    (flag
    ⊳ λ present. flag
    ⊳ λ choice. enumerated (values edition (chosen choice)))

-- 1 or 12 for the value, then 5 for the padding behind it, then 14 (rule 6.14). It is one item, at place 0 (rule 6.17), and the padding in
-- it is an item of its own (rule 7.11)
unfoldable pub start : Edition → Format First
start edition =
    made (λ x. x.0) (λ f. (f, (tt, tt)))
    (item
    (type_of_msg edition
    ⊳ λ f. align
    ⊳ λ _. demand wrong_data (right_fields f.kind f.present)))

-- ---- Data-Field ::= SEQUENCE OF SEQUENCE { field-type ENUMERATED, field-data OCTET STRING (SIZE (1..65535)) OPTIONAL }
-- a count by the length rule; one that is not 1 to 16 is 4 (rule 6.4)
unfoldable pub count : Format ℕ
count = length_rule fields_least fields_limit

pub record Header : Type 0 where
  pub type : ℕ
  pub present : Bool

-- the bit for field-data OPTIONAL and the field type (rules 6.7 and 7.9), from the bit at which the item before ended (rule 5.6). 14 comes
-- before 5 for the padding behind the header (rule 6.15)
unfoldable pub header : Edition → Format Header
header edition =
    guarded wrong_data (λ h. right_data edition h.type h.present)
    (made (λ x. record { type = x.1; present = x.0 }) (λ h. (h.present, h.type))
    (flag
    ⊳ λ present. enumerated edition.types))

-- two octets with the length minus one (rule 6.8); a length over the packet limit is 4 (rules 1.9 and 6.9)
unfoldable pub size : Format ℕ
size = made (λ n. n + 1) (λ n. n - 1) (two_octets (packet_limit - 1))

-- a field as it is read and written: its type, where its data begins, and the data. Without data, `start` is 0 and `octets` is empty
pub record Content : Type 0 where
  pub type : ℕ
  pub start : ℕ
  pub octets : List ℕ

-- the length, the octet at which the data begins, and the data (rule 6.8)
unfoldable pub field_data : Format (ℕ × List ℕ)
field_data =
    made (λ x. x.1) (λ x. (length x.1, x))
    (size
    ⊳ λ n. here
    ⊳ λ _. octets n)

-- from its header, where its data begins and the data, and back
abbrev pub content_from : Header × (ℕ × List ℕ) → Content
content_from parts =
    let header = parts.0 in
    let start = parts.1.0 in
    let octets = parts.1.1 in
    record { type = header.type; start = start; octets = octets }

abbrev pub content_parts : Content → Header × (ℕ × List ℕ)
content_parts c = (record { type = c.type; present = ltb 0 (length c.octets) }, (c.start, c.octets))

unfoldable pub field : Edition → Format Content
field edition =
    made content_from content_parts
    (item (header edition)
    ⊳ λ h. cond h.present field_data (known (0, [])))

unfoldable pub data_field : Edition → Format (List Content)
data_field edition =
    made (λ x. x.1) (λ contents. (length contents, contents))
    (count
    ⊳ λ n. sequence_of n (field edition))

-- ---- IFPPacket ::= SEQUENCE { type-of-msg Type-of-msg, data-field Data-Field OPTIONAL }
pub record IfpPacket : Type 0 where
  pub kind : PacketKind
  pub value : ℕ
  pub contents : List Content

-- from its first item and its fields, and back
abbrev pub packet_from : First × (List Content × Unit {0}) → IfpPacket
packet_from parts =
    let first = parts.0 in
    let contents = parts.1.0 in
    record { kind = first.kind; value = first.value; contents = contents }

abbrev pub packet_parts : IfpPacket → First × (List Content × Unit {0})
packet_parts p = (record { kind = p.kind; value = p.value; present = ltb 0 (length p.contents) }, (p.contents, tt))

-- if the data-field bit is set, a count of fields follows (rule 6.4); a data packet with no field has it clear (rule 6.5). The packet ends
-- at an octet edge (rule 5.2)
unfoldable pub packet : Edition → Format IfpPacket
packet edition =
    made packet_from packet_parts
    (start edition
    ⊳ λ f. cond f.present (data_field edition) (known [])
    ⊳ λ _. align)

-- ---- what a packet reads as
-- whether a test holds of every element of a list
unfoldable pub every : (ℕ → Bool) → List ℕ → Bool
every test [] = true
every test (x ∷ rest) = test x && every test rest

abbrev pub all_zero : List ℕ → Bool
all_zero octets = every (λ x. eqb x 0) octets

-- what may follow the end: nothing in a received or spare packet (rule 6.11), zeros only in a repaired one (rule 6.12)
abbrev pub may_follow : Ending → List ℕ → Bool
may_follow Whole rest = eqb (length rest) 0
may_follow Repaired rest = all_zero rest

-- anything else left over is 6, at the first octet behind the end (rules 2.29, 6.11 and 6.12)
unfoldable pub whole_packet : Edition → Ending → Reader IfpPacket
whole_packet edition ending = do
  p ← (packet edition).read
  _ ← reading.item (λ octets i at. check left_over (may_follow ending (drop (at / 8) octets)) octets i at)
  give p

pub record PacketAnswer : Type 0 where
  pub kind : PacketKind
  pub value : ℕ
  pub fields : List Field

abbrev pub field_of : Content → Field
field_of c = record { kind = c.type; start = c.start; size = length c.octets }

abbrev pub answer_of : Finding IfpPacket → Answer PacketAnswer
answer_of (found p at) = done (record { kind = p.kind; value = p.value; fields = map field_of p.contents })
answer_of (stopped r) = refused r

-- over the packet limit 4, then reading order (rule 6.13)
unfoldable pub read_packet : Edition → Ending → List ℕ → Answer PacketAnswer
read_packet edition ending octets =
    cond (ltb packet_limit (length octets)) (refuse outside_sizes) (answer_of (whole_packet edition ending octets 0 0))

-- ---- a field's data, as a part of the packet's octets
-- no field, in the places that a packet's fields leave unused (rule 6.27)
abbrev pub no_field : Field
no_field = record { kind = 0; start = 0; size = 0 }

abbrev pub data_of : List ℕ → Field → List ℕ
data_of octets field = take field.size (drop field.start octets)

-- the data of some fields, one after the other
unfoldable pub all_data : List ℕ → List Field → List ℕ
all_data octets [] = []
all_data octets (field ∷ fields) = data_of octets field ++ all_data octets fields
