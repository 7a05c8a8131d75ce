-- What is kept of an accepted datagram: its packet and its spares, where their numbers are still unknown, before the base too (rules 10.6
-- and 10.7), and its mark, n and messages (rule 10.10). Each call has a record for what it requires and one for what it promises. What a
-- call does not see may be anything with which the session is within its ranges. Definitions only.
use Rattle.std.specs.Prelude.{◌≡◌, ℕ, ◌+◌, ◌<◌, ◌≤◌, true, false, ◌⊎◌, List, map, length, take, slice_set}
use Rattle.datagram.specs.Sizes.{packet_least, packet_limit, spares_limit, message_least, message_limit, covered_limit, messages_limit}
use Rattle.datagram.specs.Read.{octets_of}
use Rattle.datagram.specs.Claims.{PartInside}
use Rattle.datagram.specs.declared.reader.Part.{Part}
use Rattle.session.specs.Cells.{Cell, kept_before, kept_ahead, kept_numbers}
use Rattle.session.specs.Held.{Held, held_at}
use Rattle.session.specs.Reached.{Known}
use Rattle.session.specs.View.{number_at}
use Rattle.session.specs.Offer as offers
use Rattle.session_held.specs.Table.{Lent, lent, state_numbered, cells_of, held_of}
use Rattle.session_held.specs.Laid.{InRanges}
use Rattle.session_held.specs.declared.Counts.{Counts}
use Rattle.session_offer.specs.KeepSteps.{part_at}

-- ---- a packet, and spares
-- the cells are the given ones, what is held is unchanged, and the session is within its ranges
pub record CellsNow (before after : Lent) (wanted : List Cell) : Type 0 where
  pub cells : cells_of after.base after.table after.octets ≡ wanted
  pub held : held_of after.base after.table after.messages ≡ held_of before.base before.table before.messages
  pub within : InRanges after

-- the number is at a place of the view with `count` places before it: it is so for some base, counts and messages with which the session is
-- within its ranges
pub record MayKeep (number count : ℕ) (table octets : List ℕ) : Type 0 where
  pub base : ℕ
  pub counts : Counts
  pub messages : List ℕ
  pub place : ℕ
  pub within : InRanges (lent base counts table octets messages)
  pub there : place < kept_numbers
  pub low : count ≤ place
  pub stands : number ≡ number_at base place

-- the octets b of datagram S are kept at a number if it is still unknown (rule 10.7): for every base, counts and messages with which the
-- session is within its ranges and the number is at a place p of the view
pub record Keeps (S state number : ℕ) (b table octets new_table new_octets : List ℕ) : Type 0 where
  pub kept : (base : ℕ) (c : Counts) (messages : List ℕ) (p : ℕ) → InRanges (lent base c table octets messages) → p < kept_numbers
      → number ≡ number_at base p
      → CellsNow (lent base c table octets messages) (lent base c new_table new_octets messages)
      (offers.keep S (state_numbered state) p b (cells_of base table octets))

-- the spares of a datagram are its first `count` items: at most 8, and each is a packet (rules 1.3 and 4.10)
pub record CarriesSpares (s : List ℕ) (items : List Part) (count : ℕ) : Type 0 where
  pub few : count ≤ spares_limit
  pub there : count ≤ length items
  pub each : (i : ℕ) → i < count → PartInside packet_least packet_limit s (part_at items i)

-- the spares of the datagram with that number are kept (rules 4.5 and 10.7)
pub record KeepsSpares (number : ℕ) (s : List ℕ) (items : List Part) (count : ℕ) (table octets new_table new_octets : List ℕ) : Type 0 where
  pub kept : (base : ℕ) (c : Counts) (messages : List ℕ) (p : ℕ) → InRanges (lent base c table octets messages) → p < kept_numbers
      → count ≤ p
      → number ≡ number_at base p
      → CellsNow (lent base c table octets messages) (lent base c new_table new_octets messages)
      (offers.keep_spares number p (map (octets_of s) (take count items)) (cells_of base table octets))

-- ---- mark and messages
-- with m = 0 also n = 0, otherwise n and m are within the sizes (rule 13.8)
pub record InSizes (n m : ℕ) : Type 0 where
  pub least : 1 ≤ n
  pub covered : n ≤ covered_limit
  pub some : 1 ≤ m
  pub messages : m ≤ messages_limit

abbrev pub Settings : ℕ → ℕ → Type 0
Settings n m = ((m ≡ 0) × (n ≡ 0)) ⊎ InSizes n m

-- what a datagram at distance d carries besides its packet: n, and its messages as parts of its octets s; with spares there are no
-- messages, and n is 0
pub record CarriesMessages (s : List ℕ) (d n : ℕ) (items : List Part) (count : ℕ) : Type 0 where
  pub near : d < kept_ahead
  pub settings : Settings n count
  pub there : count ≤ length items
  pub each : (i : ℕ) → i < count → PartInside message_least message_limit s (part_at items i)

-- the session is within its ranges, and the number at distance d is known, but its datagram was not accepted before
pub record Unmarked (l : Lent) (d : ℕ) : Type 0 where
  pub within : InRanges l
  pub known : Known (cells_of l.base l.table l.octets) (kept_before + d)
  pub unmarked : (held_at (held_of l.base l.table l.messages) d).accepted ≡ false

-- the same of what hold sees, for some counts and octets
pub record MayHold (base : ℕ) (table messages : List ℕ) (d : ℕ) : Type 0 where
  pub counts : Counts
  pub octets : List ℕ
  pub unmarked : Unmarked (lent base counts table octets messages) d

-- what is held of the accepted datagram (rule 10.10)
abbrev pub held_of_parts : List ℕ → ℕ → List Part → ℕ → Held
held_of_parts s n items count = record { accepted = true; n = n; messages = map (octets_of s) (take count items) }

-- what is held is the given list, the cells are unchanged, and the session is within its ranges
pub record HeldNow (before after : Lent) (wanted : List Held) : Type 0 where
  pub held : held_of after.base after.table after.messages ≡ wanted
  pub cells : cells_of after.base after.table after.octets ≡ cells_of before.base before.table before.octets
  pub within : InRanges after

-- the number at distance d is marked and holds its n and messages (rule 10.10): for all counts and octets with which it was unmarked
pub record Holds (base d : ℕ) (s : List ℕ) (n : ℕ) (items : List Part) (count : ℕ) (table messages new_table new_messages : List ℕ)
    : Type 0 where
  pub holds : (c : Counts) (octets : List ℕ) → Unmarked (lent base c table octets messages) d
      → HeldNow (lent base c table octets messages) (lent base c new_table octets new_messages)
      (slice_set (held_of base table messages) d (held_of_parts s n items count))
