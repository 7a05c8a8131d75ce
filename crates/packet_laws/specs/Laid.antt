-- A packet of an edition as the code writes it, octet by octet. A value is a number of at most eight bits. A header may leave bits that do
-- not fill their octet: they wait for the next header or for the octet edge (rules 5.2 and 5.6). It is proved to be what the description of
-- `Packet` in `packet` spells. No part of the meaning. Definitions only.
use Rattle.std.specs.Prelude.{ℕ, ◌+◌, ◌-◌, ◌*◌, ◌/◌, ◌%◌, ◌^◌, Bool, cond, List, [], ◌∷◌, ◌++◌, length, take, drop, leb, ltb}
use Rattle.length.specs.Length.{length_octets}
use Rattle.packet.specs.Edition.{added_width, Edition, values}
use Rattle.packet.specs.Packet.{First, is_data}
use Rattle.packet.specs.Write.{with_data}
use Rattle.format.specs.Format.{flag_bit}
use Rattle.format.specs.Places.{Place, edge}
use Rattle.format.specs.Waiting.{Waiting, waiting, none_wait, joined, full_octets, left, closed}
use Rattle.packet.specs.declared.types.PacketKind.{PacketKind}
use Rattle.packet.specs.declared.types.Enumerated.{Enumerated}

-- ---- a value of an ENUMERATED type
-- the bit for extension, where there is an extension mark
abbrev pub mark_width : Bool → ℕ
mark_width extensible = cond extensible 1 0

-- how many bits a value takes: an added one has a 1 bit for extension, a 0 bit and six bits (rule 7.5)
unfoldable pub value_width : Enumerated → ℕ → ℕ
value_width e value = cond (leb e.assigned value) (2 + added_width) (mark_width e.extensible + e.width)

-- and the number that they make, counted from zero for an added value (rule 7.5)
unfoldable pub value_bits : Enumerated → ℕ → ℕ
value_bits e value = cond (leb e.assigned value) (2 * 2 ^ added_width + (value - e.assigned)) value

-- ---- the first item
-- the two bits before its value, for data-field present and for the kind, and what they make with it (rule 6.1)
abbrev pub first_lead : First → ℕ
first_lead first = 2 * flag_bit first.present + flag_bit (is_data first.kind)

abbrev pub first_bits : Enumerated → First → Waiting
first_bits e first = joined (waiting 2 (first_lead first)) (value_width e first.value) (value_bits e first.value)

unfoldable pub first_octets : Enumerated → First → List ℕ
first_octets e first = full_octets (first_bits e first) ++ closed (left (first_bits e first))

-- ---- a field
-- two octets with the length minus one, high first (rule 6.8)
abbrev pub size_octets : ℕ → List ℕ
size_octets size = ((size - 1) / 256) ∷ ((size - 1) % 256) ∷ []

-- its header after what waits: the bit for data, then the type (rule 6.7)
abbrev pub with_flag : Waiting → Bool → Waiting
with_flag w present = joined w 1 (flag_bit present)

abbrev pub with_type : Enumerated → Waiting → ℕ → Bool → Waiting
with_type e w kind present = joined (left (with_flag w present)) (value_width e kind) (value_bits e kind)

unfoldable pub header_octets : Enumerated → Waiting → ℕ → Bool → List ℕ
header_octets e w kind present = full_octets (with_flag w present) ++ full_octets (with_type e w kind present)

unfoldable pub header_left : Enumerated → Waiting → ℕ → Bool → Waiting
header_left e w kind present = left (with_type e w kind present)

-- with data, from an octet edge on, two octets with its length minus one, then the data (rule 6.8)
unfoldable pub field_octets : Enumerated → Waiting → ℕ → List ℕ → List ℕ
field_octets e w kind octets =
    let present = with_data (length octets) in
    header_octets e w kind (with_data (length octets))
    ++ cond present (closed (header_left e w kind (with_data (length octets))) ++ (size_octets (length octets) ++ octets)) []

-- what waits after it (rule 5.6)
unfoldable pub after_field : Enumerated → Waiting → ℕ → List ℕ → Waiting
after_field e w kind octets = cond (with_data (length octets)) none_wait (header_left e w kind (with_data (length octets)))

-- the fields in order, each with the next part of the data, of its length; at the end an octet edge (rule 5.2)
unfoldable pub fields_octets : Enumerated → Waiting → List ℕ → List ℕ → List ℕ → List ℕ
fields_octets e w [] lengths octets = closed w
fields_octets e w (kind ∷ types) [] octets = closed w
fields_octets e w (kind ∷ types) (size ∷ lengths) octets =
    field_octets e w kind (take size octets) ++ fields_octets e (after_field e w kind (take size octets)) types lengths (drop size octets)

-- ---- the packet
-- the count of fields, then the fields (rule 6.4)
abbrev pub counted_fields : Enumerated → List ℕ → List ℕ → List ℕ → List ℕ
counted_fields e types lengths octets = length_octets (length types) ++ fields_octets e none_wait types lengths octets

-- the first item, then those, if there are any (rule 6.5)
unfoldable pub laid_octets : Edition → PacketKind → ℕ → List ℕ → List ℕ → List ℕ → List ℕ
laid_octets edition kind value types lengths octets =
    let present = ltb 0 (length types) in
    first_octets (values edition kind) (record { kind = kind; value = value; present = ltb 0 (length types) })
    ++ cond present (counted_fields edition.types types lengths octets) []

-- ---- how many octets it takes
-- a header takes five bits in the new edition and four in the old, for a type that was not added (rules 6.7 and 7.9)
abbrev pub header_width : Enumerated → ℕ → ℕ
header_width e kind = 1 + value_width e kind

-- the place after a field at a place, whose data has this length
abbrev pub past_field : Enumerated → Place → ℕ → ℕ → Place
past_field e p kind size = cond (with_data size) (8 * (edge (p + header_width e kind) + 2 + size)) (p + header_width e kind)

unfoldable pub past_fields : Enumerated → Place → List ℕ → List ℕ → Place
past_fields e p [] lengths = p
past_fields e p (kind ∷ types) [] = p
past_fields e p (kind ∷ types) (size ∷ lengths) = past_fields e (past_field e p kind size) types lengths

-- the octets of the first item, one or two (rules 6.2 and 7.5)
abbrev pub first_size : Enumerated → ℕ → ℕ
first_size e value = edge (2 + value_width e value)

-- how many octets a packet has whose fields have these types, and data of these lengths
abbrev pub packet_size : Edition → PacketKind → ℕ → List ℕ → List ℕ → ℕ
packet_size edition kind value types lengths =
    let first = first_size (values edition kind) value in
    cond (ltb 0 (length types)) (edge (past_fields edition.types (8 * (first_size (values edition kind) value + 1)) types lengths)) first
