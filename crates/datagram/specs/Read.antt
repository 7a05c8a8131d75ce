-- How a datagram is read: its octets (rules 4.1 to 4.11), the order of its refusals (rules 3.6 and 4.15), and their places (rules 2.27 to
-- 2.29 and 4.16). Definitions only.
use Rattle.std.specs.Prelude.{ℕ, zero, suc, ◌+◌, ◌-◌, ◌*◌, ◌%◌, cond, List, [], ◌∷◌, map, length, get_or, take, drop, leb, ltb, eqb}
use Rattle.length.specs.Refusals.{ends_early, too_long, spare_bit, left_over}
use Rattle.length.specs.Answers.{Answer, done, refuse, refuse_at, read_from, ◌>>=◌, LengthAnswer}
use Rattle.length.specs.Length.{allowed, length_within}
use Rattle.datagram.specs.Sizes.{packet_least, packet_limit, message_least, message_limit, datagram_limit, spares_least, spares_limit}
use Rattle.datagram.specs.Sizes.{covered_least, covered_limit, messages_least, messages_limit}
use Rattle.datagram.specs.Carried.{Carried}
use Rattle.datagram.specs.Write.{extra_of}
use Rattle.datagram.specs.declared.reader.Part.{Part}
use Rattle.datagram.specs.declared.kind.Kind.{Kind}
use Rattle.datagram.specs.declared.kind.Kind.TheVariants as kind

-- a datagram as read: the packet and each spare or message as a part (start, length) of its octets (rule 4.23)
pub record DatagramParts : Type 0 where
  pub number : ℕ
  pub packet : Part
  pub kind : Kind
  pub items : List Part

-- ---- the pieces, each at a place of the octets

-- the place after a part
abbrev pub after : Part → ℕ
after p = p.start + p.size

-- a length or count from least to most, read at a place (rules 3.6 and 3.9)
abbrev pub length_from : ℕ → ℕ → List ℕ → ℕ → Answer LengthAnswer
length_from least most octets at = read_from at (length_within least most (drop at octets))

-- a plain octet from least to most, not read by the length rule (rule 4.8)
unfoldable pub octet_at : ℕ → ℕ → List ℕ → ℕ → Answer LengthAnswer
octet_at least most octets at =
    read_from at
    (cond (leb (length octets) at) (refuse ends_early)
    (allowed least most (record { value = get_or octets at 0; size = 1 })))

-- a packet, spare or message: its length, then its octets (rules 2.28 and 3.6)
unfoldable pub item_at : ℕ → ℕ → List ℕ → ℕ → Answer Part
item_at least most octets at = do
  l ← length_from least most octets at
  cond (ltb (length octets - (at + l.size)) l.value) (refuse_at (at + l.size) ends_early)
      (done (record { start = at + l.size; size = l.value }))

-- this many of them, one after the other
unfoldable pub items_at : ℕ → ℕ → List ℕ → ℕ → ℕ → Answer (List Part)
items_at least most octets at zero = done []
items_at least most octets at (suc left) = do
  p ← item_at least most octets at
  ps ← items_at least most octets (after p) left
  done (p ∷ ps)

-- the place behind the last of some parts, the first of which begins at a place
unfoldable pub end_of : ℕ → List Part → ℕ
end_of at [] = at
end_of at (p ∷ ps) = end_of (after p) ps

-- ---- what follows the newest packet

-- what comes before the items: their kind and count, and where the first item begins
pub record ExtraHead : Type 0 where
  pub kind : Kind
  pub count : ℕ
  pub first : ℕ

-- for spares a count (rules 4.4 and 4.9)
unfoldable pub spares_at : List ℕ → ℕ → Answer ExtraHead
spares_at octets at = do
  k ← length_from spares_least spares_limit octets at
  done (record { kind = kind.Spares; count = k.value; first = at + k.size })

-- for parity octet 01, octet n and count m (rules 4.6, 4.8 and 4.9)
unfoldable pub parity_at : List ℕ → ℕ → Answer ExtraHead
parity_at octets at = do
  one ← octet_at 1 1 octets at
  n ← octet_at covered_least covered_limit octets (at + 1)
  m ← length_from messages_least messages_limit octets (at + 2)
  done (record { kind = kind.Parity n.value; count = m.value; first = at + 2 + m.size })

-- one octet, 00 for spares or 80 for parity; a low bit set is 5 (rule 4.3)
unfoldable pub extra_at : List ℕ → ℕ → Answer ExtraHead
extra_at octets at =
    cond (leb (length octets) at) (refuse_at at ends_early)
    (cond (eqb (get_or octets at 0 % 0x80) 0)
    (cond (ltb (get_or octets at 0) 0x80) (spares_at octets (at + 1)) (parity_at octets (at + 1)))
    (refuse_at at spare_bit))

-- a spare is a packet (rule 4.10); a message may be empty (rule 4.11)
abbrev pub least_of : Kind → ℕ
least_of kind.Spares = packet_least
least_of (kind.Parity n) = message_least

abbrev pub most_of : Kind → ℕ
most_of kind.Spares = packet_limit
most_of (kind.Parity n) = message_limit

-- ---- the datagram

-- the number: two octets, high first (rule 4.1), which are one item (rule 4.16)
unfoldable pub number_of : List ℕ → Answer ℕ
number_of octets = cond (ltb (length octets) 2) (refuse ends_early) (done (get_or octets 0 0 * 256 + get_or octets 1 0))

-- the spares or messages, when all before them is read; octets behind the last are 6, at the first of them (rules 2.29 and 4.7)
unfoldable pub whole_of : List ℕ → ℕ → Part → ExtraHead → Answer DatagramParts
whole_of octets number packet extra = do
  items ← items_at (least_of extra.kind) (most_of extra.kind) octets extra.first extra.count
  cond (ltb (end_of extra.first items) (length octets)) (refuse_at (end_of extra.first items) left_over)
      (done (record { number = number; packet = packet; kind = extra.kind; items = items }))

-- the whole: 2, then in reading order (rule 4.15)
unfoldable pub read_datagram : List ℕ → Answer DatagramParts
read_datagram octets =
    cond (ltb datagram_limit (length octets)) (refuse too_long)
    do
      number ← number_of octets
      packet ← item_at packet_least packet_limit octets 2
      extra ← extra_at octets (after packet)
      whole_of octets number packet extra

-- ---- the octets of the parts

-- a part's octets
abbrev pub octets_of : List ℕ → Part → List ℕ
octets_of octets p = take p.size (drop p.start octets)

-- what the datagram in `octets` carries, where d was read from `octets`
unfoldable pub carried_by : List ℕ → DatagramParts → Carried
carried_by octets d =
    record {
      number = d.number;
      packet = octets_of octets d.packet;
      extra = extra_of d.kind (map (octets_of octets) d.items);
    }
