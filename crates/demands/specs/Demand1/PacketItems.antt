-- A packet in an edition of the ASN.1, item by item: its items, and the table of refusals of each (rules 6.1 to 6.17 and 7.5 to 7.11). At
-- the first value the order is 1 or 12, then 5, then 14 (rule 6.14); at a field header it is 1 or 12, then 14, then 5 (rule 6.15); at a
-- count it is 3 or 1, then 4 (rule 3.6). Padding is an item of its own (rule 5.5). Nothing here reads: a packet is a row of right items,
-- each at its place, which is counted in bits from the packet's start. Definitions only.
use Rattle.std.specs.Prelude.{ℕ, zero, suc, ◌+◌, ◌*◌, ◌/◌, ◌≡◌, Bool, not, cond, ◌&&◌, List, [], ◌∷◌, ◌++◌, length, get_or, drop, ltb}
use Rattle.std.proofs.Math.Option.{Option, none}
use Rattle.length.specs.Refusals.{ends_early, outside_sizes, spare_bit, left_over, not_assigned, wrong_data}
use Rattle.length.specs.Length.{within}
use Rattle.length.specs.Tables.{when, first}
use Rattle.length.specs.declared.Reason.{Reason}
use Rattle.format.specs.Spelling.{gap}
use Rattle.format.specs.Places.{Place, bits_at, edge}
use Rattle.datagram.specs.Sizes.{packet_limit}
use Rattle.packet.specs.Edition.{added_width, Edition, values}
use Rattle.packet.specs.Packet.{fields_least, fields_limit, right_fields, right_data, may_follow}
use Rattle.packet_laws.specs.Octets.{bit_set_at, kind_of}
use Rattle.packet.specs.declared.types.Enumerated.{Enumerated}
use Rattle.packet.specs.declared.types.Ending.{Ending}
use Rattle.packet.specs.declared.types.Ending.TheVariants.{Whole}
use Rattle.demands.specs.Demand1.Refusals.{length_rows}

-- ---- what a packet is made of
-- the items of a packet. Whether the packet may have fields is decided behind the padding of the first value, and belongs to that value.
-- Each item of a field carries how many fields come after that field, and field data carries before that how many octets it has. Padding
-- is the zero bits, if any, up to the octet edge at which the next item must begin (rules 5.2 and 5.3)
pub data Item : Type 0 where
  first_value : Item
  fields_allowed : Item
  count_of_fields : Item
  header : ℕ → Item
  padding : Item → Item
  data_length : ℕ → Item
  field_data : ℕ → ℕ → Item
  end : Item

-- the item that is due where this many fields are still to come
abbrev pub fields : ℕ → Item
fields zero = padding end
fields (suc left) = header left

-- the octet at which an item begins, for an item at this place (rules 5.7 and 6.17)
abbrev pub octet_of : Item → Place → ℕ
octet_of first_value p = p / 8
octet_of fields_allowed p = 0
octet_of count_of_fields p = p / 8
octet_of (header left) p = p / 8
octet_of (padding next) p = p / 8
octet_of (data_length left) p = p / 8
octet_of (field_data size left) p = p / 8
octet_of end p = p / 8

-- ---- a value of an ENUMERATED type, at a place
-- an added value: the type has an extension bit, and it is set (rule 7.5)
abbrev pub is_added : Enumerated → List ℕ → Place → Bool
is_added e octets p = e.extensible && bit_set_at octets p

-- the place behind the extension bit, if the type has one
abbrev pub behind_mark : Enumerated → Place → Place
behind_mark e p = cond e.extensible (p + 1) p

-- an added value is six bits behind a 1 bit and a 0 bit, counted from zero (rule 7.5); any other value is the bits behind the extension
-- bit
abbrev pub value_in : Enumerated → List ℕ → Place → ℕ
value_in e octets p =
    cond (is_added e octets p) (e.assigned + bits_at added_width octets (p + 1 + 1)) (bits_at e.width octets (behind_mark e p))

abbrev pub value_ends : Enumerated → List ℕ → Place → Place
value_ends e octets p = cond (is_added e octets p) (p + 1 + 1 + added_width) (behind_mark e p + e.width)

-- 1: fewer bits are left than the item needs (rule 2.1)
abbrev pub cut_short : List ℕ → Place → Option Reason
cut_short octets behind = when (ltb (8 * length octets) behind) ends_early

-- the table of an added value, from the place behind the extension bit on (rules 7.6 to 7.8), and of any other (rule 6.3)
abbrev pub added_rows : Enumerated → List ℕ → Place → List (Option Reason)
added_rows e octets p =
    when (ltb e.added 1) not_assigned
    ∷ when (bit_set_at octets p) not_assigned
    ∷ cut_short octets (p + 1 + added_width)
    ∷ when (not (ltb (bits_at added_width octets (p + 1)) e.added)) not_assigned
    ∷ []

abbrev pub root_rows : Enumerated → List ℕ → Place → List (Option Reason)
root_rows e octets p = cut_short octets (p + e.width) ∷ when (not (ltb (bits_at e.width octets p) e.assigned)) not_assigned ∷ []

unfoldable pub value_rows : Enumerated → List ℕ → Place → List (Option Reason)
value_rows e octets p = cond (is_added e octets p) (added_rows e octets (p + 1)) (root_rows e octets (behind_mark e p))

-- ---- what is at a place
-- at an octet edge: the octets from there on, and the first of them
abbrev pub octets_from : List ℕ → Place → List ℕ
octets_from octets p = drop (p / 8) octets

abbrev pub octet_here : List ℕ → Place → ℕ
octet_here octets p = get_or (octets_from octets p) 0 0

-- the first bit of a packet is data-field present, the second is the kind, then comes the value (rule 6.1)
abbrev pub has_fields : List ℕ → Bool
has_fields octets = bit_set_at octets 0

abbrev pub first_values : Edition → List ℕ → Enumerated
first_values edition octets = values edition (kind_of octets)

-- a header: one bit for data present, then the field type (rule 6.7); and whether that type allows data, or no data, there (rule 6.10)
abbrev pub type_in : Edition → List ℕ → Place → ℕ
type_in edition octets p = value_in edition.types octets (p + 1)

abbrev pub data_fits : Edition → List ℕ → Place → Bool
data_fits edition octets p = right_data edition (type_in edition octets p) (bit_set_at octets p)

-- the length of a field's data: two octets that hold it minus one (rule 6.8)
abbrev pub data_size : List ℕ → Place → ℕ
data_size octets p = get_or (octets_from octets p) 0 0 * 256 + get_or (octets_from octets p) 1 0 + 1

-- ---- one item after the other
-- the place at which an item ends. A count of 1 to 16 is one octet
abbrev pub ends : Edition → Item → List ℕ → Place → Place
ends edition first_value octets p = value_ends (first_values edition octets) octets (p + 2)
ends edition fields_allowed octets p = p
ends edition count_of_fields octets p = p + 8
ends edition (header left) octets p = value_ends edition.types octets (p + 1)
ends edition (padding next) octets p = 8 * edge p
ends edition (data_length left) octets p = p + 16
ends edition (field_data size left) octets p = p + 8 * size
ends edition end octets p = p

-- the item that is due there. If the data-field bit is set, a count of fields follows (rule 6.4); a field header is not padded (rule
-- 5.6); only the count of fields, data lengths and the packet's end are aligned to an octet edge (rule 5.2)
abbrev pub due_after : Item → List ℕ → Place → Item
due_after first_value octets p = padding fields_allowed
due_after fields_allowed octets p = cond (has_fields octets) count_of_fields (fields 0)
due_after count_of_fields octets p = fields (octet_here octets p)
due_after (header left) octets p = cond (bit_set_at octets p) (padding (data_length left)) (fields left)
due_after (padding next) octets p = next
due_after (data_length left) octets p = field_data (data_size octets p) left
due_after (field_data size left) octets p = fields left
due_after end octets p = end

-- ---- what each item is refused for
-- the table of an item at its place: the first row that applies refuses it. The count of fields has the form of every length; in two
-- octets it is 128 or more, and so is the first of them. A data length has no form to refuse (rule 6.9)
unfoldable pub rows : Edition → Ending → Item → List ℕ → Place → List (Option Reason)
rows edition ending first_value octets p = value_rows (first_values edition octets) octets (p + 2)
-- 14: an indicator never has a data field (rule 6.6)
rows edition ending fields_allowed octets p = when (not (right_fields (kind_of octets) (has_fields octets))) wrong_data ∷ []
rows edition ending count_of_fields octets p =
    length_rows (octets_from octets p) ++ (when (not (within fields_least fields_limit (octet_here octets p))) outside_sizes ∷ [])
rows edition ending (header left) octets p =
    value_rows edition.types octets (p + 1) ++ (when (not (data_fits edition octets p)) wrong_data ∷ [])
rows edition ending (padding next) octets p = when (ltb 0 (bits_at (gap p) octets p)) spare_bit ∷ []
rows edition ending (data_length left) octets p =
    cut_short octets (p + 16) ∷ when (ltb packet_limit (data_size octets p)) outside_sizes ∷ []
rows edition ending (field_data size left) octets p = cut_short octets (p + 8 * size) ∷ []
-- 6: nothing follows a received or spare packet, and only zeros follow a repaired one (rules 6.11 and 6.12)
rows edition ending end octets p = when (not (may_follow ending (octets_from octets p))) left_over ∷ []

-- ---- a packet
-- from the first value on each item is right, since no row of its table applies, and at this place this item is due. How the packet came
-- matters only at its end
pub data Due (edition : Edition) (octets : List ℕ) : Place → Item → Type 0 where
  begins : Due edition octets 0 first_value
  goes_on : {p : Place} {item : Item} → Due edition octets p item → first (rows edition Whole item octets p) ≡ none
      → Due edition octets (ends edition item octets p) (due_after item octets p)

-- a whole packet: nothing more is due behind its last octet
abbrev pub Packet : Edition → List ℕ → Type 0
Packet edition octets = Due edition octets (8 * length octets) end
