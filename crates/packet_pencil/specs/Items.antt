-- What the readers of Annex A's small productions owe: what the description finds (rules 6.2, 6.4, 6.8, 7.5 and 8.1). Definitions only.
use Rattle.std.specs.Prelude.{Result, Ok, Err, ℕ, ◌+◌, ◌/◌, ◌%◌, ◌≤◌, ◌<◌, ◌≡◌, not, cond, List, length, drop, leb, ltb}
use Rattle.length.specs.Refusals.{bad_form, not_assigned}
use Rattle.format.specs.Reading.{Finding, found, stopped, Reader, ◌>>=◌, give, check}
use Rattle.format.specs.Reading as reading
use Rattle.format.specs.Places.{Place}
use Rattle.format.specs.Format.{Format, bits, guarded}
use Rattle.datagram.specs.Sizes.{packet_limit}
use Rattle.packet.specs.Edition.{many, added_width}
use Rattle.packet.specs.Packet.{fields_limit}
use Rattle.packet.specs.Packet as description
use Rattle.packet.specs.declared.types.Enumerated.{Enumerated}
use Rattle.packet_pencil.specs.Bits.{finding, found_as}
use Rattle.length.specs.declared.Refusal.{Refusal}

-- a number that was found is below a limit
abbrev pub Below : ℕ → Result (ℕ × ℕ) Refusal → Type 0
Below limit (Ok x) = x.0 < limit
Below limit (Err r) = Unit {0}

-- a value before the extension mark (rule 6.3)
pub record RootTaken (e : Enumerated) (octets : List ℕ) (i : ℕ) (p : Place) (r : Result (ℕ × ℕ) Refusal) : Type 0 where
  pub answer : (description.root e).read octets i p ≡ finding r
  pub small : Below (many e) r

-- which of the added values, in their six bits (rules 7.5 and 7.8)
abbrev pub six : Enumerated → Format ℕ
six e = guarded not_assigned (λ v. ltb v e.added) (bits added_width)

-- an added value, from its six bits on
pub record AddedTaken (e : Enumerated) (octets : List ℕ) (i : ℕ) (p : Place) (r : Result (ℕ × ℕ) Refusal) : Type 0 where
  pub answer : found_as (λ v. e.assigned + v) ((six e).read octets i p) ≡ finding r
  pub small : Below (many e) r

-- and from behind the bit for extension (rules 7.6 and 7.7)
pub record AdditionTaken (e : Enumerated) (octets : List ℕ) (i : ℕ) (p : Place) (r : Result (ℕ × ℕ) Refusal) : Type 0 where
  pub answer : (description.addition e).read octets i p ≡ finding r
  pub small : Below (many e) r

-- an assigned value
pub record ValueTaken (e : Enumerated) (octets : List ℕ) (i : ℕ) (p : Place) (r : Result (ℕ × ℕ) Refusal) : Type 0 where
  pub answer : (description.enumerated e).read octets i p ≡ finding r
  pub small : Below (many e) r

-- the octet at a place, or the end where the place is past it: the octets from there on are the same
pub record OctetTaken (octets : List ℕ) (p : Place) (r : ℕ) : Type 0 where
  pub inside : r ≤ length octets
  pub rest : drop r octets ≡ drop (p / 8) octets

-- a length or count by the length rule, bit by bit: a 0 bit and seven bits, or a 1 bit, a 0 bit and fourteen bits for 128 or more; another
-- form is 3 (rules 3.1 to 3.5)
unfoldable pub long_bits : Reader ℕ
long_bits = do
  longer ← reading.flag
  _ ← check bad_form (not longer)
  n ← reading.bits 14
  _ ← check bad_form (leb 128 n)
  give n

unfoldable pub length_bits : Reader ℕ
length_bits = do
  long ← reading.flag
  cond long long_bits (reading.bits 7)

pub record LongTaken (octets : List ℕ) (i : ℕ) (p : Place) (r : Result (ℕ × ℕ) Refusal) : Type 0 where
  pub answer : long_bits octets i p ≡ finding r

pub record LengthTaken (octets : List ℕ) (i : ℕ) (p : Place) (r : Result (ℕ × ℕ) Refusal) : Type 0 where
  pub answer : length_bits octets i p ≡ finding r

-- a count of fields, at most as many as a packet may have (rule 6.4)
pub record CountTaken (octets : List ℕ) (p : Place) (r : Result (ℕ × ℕ) Refusal) : Type 0 where
  pub answer : (i : ℕ) → (description.count).read octets i p ≡ finding r
  pub small : Below (1 + fields_limit) r

-- a length that was found is 1 or more, is within the packet limit, and ends at an octet edge (rules 6.8 and 6.9)
pub record DataLength (n : ℕ) (q : Place) : Type 0 where
  pub some : 1 ≤ n
  pub few : n ≤ packet_limit
  pub on : q % 8 ≡ 0

abbrev pub RightLength : Result (ℕ × ℕ) Refusal → Type 0
RightLength (Ok x) = DataLength x.0 x.1
RightLength (Err r) = Unit {0}

pub record SizeTaken (octets : List ℕ) (p : Place) (r : Result (ℕ × ℕ) Refusal) : Type 0 where
  pub answer : (i : ℕ) → (description.size).read octets i p ≡ finding r
  pub sized : RightLength r

-- data, by where it begins and how long it is
abbrev pub part_of : ℕ × List ℕ → ℕ × ℕ
part_of x = (x.0, length x.1)

abbrev pub part_found : Result (ℕ × ℕ × ℕ) Refusal → Finding (ℕ × ℕ)
part_found (Ok x) = found (x.0, x.1) x.2
part_found (Err r) = stopped r

pub record PartTaken (octets : List ℕ) (p : Place) (r : Result (ℕ × ℕ × ℕ) Refusal) : Type 0 where
  pub answer : (i : ℕ) → found_as part_of ((description.field_data).read octets i p) ≡ part_found r
