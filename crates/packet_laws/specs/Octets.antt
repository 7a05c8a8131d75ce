-- A packet of an edition as the code reads it: a place is a number of bits, and what is read there is computed from the octets that hold it
-- (rule 5.1). Bits past the end are 0. The tables of refusals in `demands` use these definitions too; they are proved to be what the
-- description of `Packet` in `packet` says. No part of the meaning. Definitions only.
use Rattle.std.specs.Prelude.{ℕ, zero, suc, ◌+◌, ◌-◌, ◌*◌, ◌/◌, ◌≤◌, Bool, cond, List, [], ◌∷◌, length, get_or, drop, ltb}
use Rattle.length.specs.Refusals.{ends_early, outside_sizes, spare_bit, left_over, not_assigned, wrong_data}
use Rattle.length.specs.Answers.{Answer, done, refuse, refuse_at, read_from, ◌>>=◌}
use Rattle.length.specs.Length.{length_within}
use Rattle.format.specs.Places.{Place, bits_at, edge_at}
use Rattle.datagram.specs.Sizes.{packet_limit}
use Rattle.packet.specs.Edition.{many, added_width, SoundEnumerated, Edition, values}
use Rattle.packet.specs.Packet.{First, Header, PacketAnswer, chosen, right_fields, right_data, fields_least, fields_limit, may_follow}
use Rattle.packet.specs.declared.types.PacketKind.{PacketKind}
use Rattle.packet.specs.declared.types.Ending.{Ending}
use Rattle.packet.specs.declared.types.Field.{Field}
use Rattle.packet.specs.declared.types.Enumerated.{Enumerated}

-- whether the bit at a place is set
abbrev pub bit_set_at : List ℕ → Place → Bool
bit_set_at s p = ltb 0 (bits_at 1 s p)

-- ---- a value of an ENUMERATED type, of the item that begins at an octet
-- no two of its values share their bits, and they fit an octet. The bits of those before the extension mark are at most six, so that with a
-- bit before them and the bit for extension two octets hold them, wherever they begin
pub record Narrow (e : Enumerated) : Type 0 where
  pub sound : SoundEnumerated e
  pub some : 1 ≤ e.width
  pub few : e.width ≤ 6
  pub values : many e ≤ 256

pub record NarrowEdition (edition : Edition) : Type 0 where
  pub of_kind : (kind : PacketKind) → Narrow (values edition kind)
  pub of_types : Narrow edition.types

pub record Value : Type 0 where
  pub value : ℕ
  pub next : Place

-- one of those before the extension mark (rule 6.3)
unfoldable pub root_at : Enumerated → ℕ → List ℕ → Place → Answer Value
root_at e item s p =
    let value = bits_at e.width s p in
    cond (ltb (8 * length s) (p + e.width)) (refuse_at item ends_early)
    (cond (ltb value e.assigned) (done (record { value = value; next = p + e.width })) (refuse_at item not_assigned))

-- one of those added after it, behind the 1 bit for extension: 12 in the old edition, for a 1 in place of the 0 bit, and past the last
-- added value (rules 7.6 to 7.8)
unfoldable pub added_at : Enumerated → ℕ → List ℕ → Place → Answer Value
added_at e item s p =
    let value = bits_at added_width s (p + 1) in
    let read : Value = record { value = e.assigned + bits_at added_width s (p + 1); next = p + 1 + added_width } in
    cond (ltb e.added 1) (refuse_at item not_assigned)
    (cond (bit_set_at s p) (refuse_at item not_assigned)
    (cond (ltb (8 * length s) (p + 1 + added_width)) (refuse_at item ends_early)
    (cond (ltb value e.added) (done read) (refuse_at item not_assigned))))

unfoldable pub value_at : Enumerated → ℕ → List ℕ → Place → Answer Value
value_at e item s p =
    cond e.extensible
    (cond (bit_set_at s p) (added_at e item s (p + 1)) (root_at e item s (p + 1)))
    (root_at e item s p)

-- how many bits a value before the extension mark takes, with the bit for extension where there is a mark: as one number they are the value
-- itself, since that bit is 0
abbrev pub plain_width : Enumerated → ℕ
plain_width e = cond e.extensible (e.width + 1) e.width

-- ---- the first value
-- the kind that the second bit says (rule 6.1)
abbrev pub kind_of : List ℕ → PacketKind
kind_of s = chosen (bit_set_at s 1)

-- kind, value and whether fields are present, and the octets up to the edge after them
pub record FirstAnswer : Type 0 where
  pub first : First
  pub octets : ℕ

-- 1 or 12 for the value, then 5 for the padding, then 14 (rule 6.14), which has place 0 (rule 6.17)
unfoldable pub first_at : Edition → List ℕ → Answer FirstAnswer
first_at edition s = do
  v ← value_at (values edition (kind_of s)) 0 s 2
  at ← edge_at s v.next
  cond (right_fields (kind_of s) (bit_set_at s 0))
      (done (record { first = record { kind = kind_of s; value = v.value; present = bit_set_at s 0 }; octets = at }))
      (refuse wrong_data)

-- ---- the count of fields
pub record Count : Type 0 where
  pub value : ℕ
  pub next : Place

-- if fields are present, a count follows, and one that is not 1 to 16 is 4 (rule 6.4); otherwise there is none to read
unfoldable pub count_at : List ℕ → ℕ → Bool → Answer Count
count_at s at present =
    cond present
    (do
      n ← read_from at (length_within fields_least fields_limit (drop at s))
      done (record { value = n.value; next = 8 * (at + n.size) }))
    (done (record { value = 0; next = 8 * at }))

-- ---- a field
-- a field's header, and the place after it
pub record HeaderAnswer : Type 0 where
  pub header : Header
  pub next : Place

-- a header that crosses an octet edge has the place of its first bit's octet (rule 5.7); 1 or 12 for its type, then 14 (rule 6.15)
unfoldable pub header_at : Edition → List ℕ → Place → Answer HeaderAnswer
header_at edition s p = do
  v ← value_at edition.types (p / 8) s (p + 1)
  cond (right_data edition v.value (bit_set_at s p))
      (done (record { header = record { type = v.value; present = bit_set_at s p }; next = v.next }))
      (refuse_at (p / 8) wrong_data)

-- the data's length minus one in two octets, then the data (rule 6.8). The two octets have no form to refuse: 1, then 4, then 1 for missing
-- data (rule 6.9), which begins behind the two (rule 2.28)
unfoldable pub size_at : List ℕ → Answer ℕ
size_at s =
    let size = get_or s 0 0 * 256 + get_or s 1 0 + 1 in
    cond (ltb (length s) 2) (refuse ends_early)
    (cond (ltb packet_limit size) (refuse outside_sizes)
    (cond (ltb (length s - 2) size) (refuse_at 2 ends_early)
    (done size)))

-- a field, and the place after it
pub record FieldAnswer : Type 0 where
  pub field : Field
  pub next : Place

-- what follows a header: with data an octet edge, its length and the data, without data nothing (rules 5.6 and 6.8)
unfoldable pub after_header : List ℕ → HeaderAnswer → Answer FieldAnswer
after_header s h =
    cond h.header.present
    (do
      at ← edge_at s h.next
      size ← read_from at (size_at (drop at s))
      done (record { field = record { kind = h.header.type; start = at + 2; size = size }; next = 8 * (at + 2 + size) }))
    (done (record { field = record { kind = h.header.type; start = 0; size = 0 }; next = h.next }))

unfoldable pub field_at : Edition → List ℕ → Place → Answer FieldAnswer
field_at edition s p = do
  h ← header_at edition s p
  after_header s h

-- ---- all fields, and the place after them
pub record FieldsAnswer : Type 0 where
  pub fields : List Field
  pub next : Place

-- n fields from a place on
unfoldable pub fields_at : Edition → ℕ → List ℕ → Place → Answer FieldsAnswer
fields_at edition zero s p = done (record { fields = []; next = p })
fields_at edition (suc n) s p = do
  f ← field_at edition s p
  rest ← fields_at edition n s f.next
  done (record { fields = f.field ∷ rest.fields; next = rest.next })

-- ---- the packet
-- its end is at an octet edge (rule 5.2), behind which octets may follow or not (rules 6.11 and 6.12)
unfoldable pub end_at : {A : Type 0} → Ending → List ℕ → Place → A → Answer A
end_at ending s p a = do
  at ← edge_at s p
  cond (may_follow ending (drop at s)) (done a) (refuse_at at left_over)

-- over the packet limit 4, then reading order (rule 6.13)
unfoldable pub packet_by_octets : Edition → Ending → List ℕ → Answer PacketAnswer
packet_by_octets edition ending s =
    cond (ltb packet_limit (length s)) (refuse outside_sizes)
    (do
      first ← first_at edition s
      count ← count_at s first.octets first.first.present
      all ← fields_at edition count.value s count.next
      end_at ending s all.next (record { kind = first.first.kind; value = first.first.value; fields = all.fields }))
