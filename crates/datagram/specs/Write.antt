-- The octets of a datagram (rules 4.1 to 4.7), and what the datagram writer writes or refuses (rules 4.17 to 4.19). Its last refusal, 13,
-- is that of every call that writes to the caller's buffer: `fitted` of `length` adds it. Definitions only.
use Rattle.std.specs.Prelude.{ℕ, ◌+◌, ◌/◌, ◌%◌, Bool, true, not, ◌&&◌, List, [], ◌∷◌, ◌++◌, length, take, drop, leb, eqb}
use Rattle.std.proofs.Math.Option.{Option}
use Rattle.length.specs.Refusals.{outside_sizes, wrong_settings}
use Rattle.length.specs.Answers.{Answer}
use Rattle.length.specs.Tables.{when, unless}
use Rattle.length.specs.Length.{within, length_octets}
use Rattle.length.specs.declared.Reason.{Reason}
use Rattle.datagram.specs.Sizes.{packet_least, packet_limit, message_least, message_limit, spares_limit, covered_least, covered_limit}
use Rattle.datagram.specs.Sizes.{messages_least, messages_limit}
use Rattle.datagram.specs.Carried.{Extra, spares, parity, Carried}
use Rattle.datagram.specs.declared.kind.Kind.{Kind}
use Rattle.datagram.specs.declared.kind.Kind.TheVariants as kind

-- ---- a datagram as octets

-- two octets, high first (rule 4.1)
unfoldable pub number_octets : ℕ → List ℕ
number_octets number = number / 256 ∷ number % 256 ∷ []

-- a packet, spare or message: its length, then its octets (rule 4.2)
unfoldable pub item_octets : List ℕ → List ℕ
item_octets item = length_octets (length item) ++ item

-- spares or messages, each with its length
unfoldable pub items_octets : List (List ℕ) → List ℕ
items_octets [] = []
items_octets (item ∷ items) = item_octets item ++ items_octets items

-- a count, then each spare or message with its length (rules 4.4 and 4.6)
unfoldable pub counted_octets : List (List ℕ) → List ℕ
counted_octets items = length_octets (length items) ++ items_octets items

-- one octet, 00 for spares or 80 for parity (rule 4.3); for parity then octet 01 and octet n (rule 4.6)
abbrev pub extra_octets : Extra → List ℕ
extra_octets (spares items) = 0x00 ∷ counted_octets items
extra_octets (parity n items) = 0x80 ∷ 0x01 ∷ n ∷ counted_octets items

-- the whole datagram
unfoldable pub datagram_octets : Carried → List ℕ
datagram_octets c = number_octets c.number ++ (item_octets c.packet ++ extra_octets c.extra)

-- ---- spares and messages, given as lengths and one run of data

-- the run of data, cut by the lengths
unfoldable pub cut : List ℕ → List ℕ → List (List ℕ)
cut [] run = []
cut (n ∷ lengths) run = take n run ∷ cut lengths (drop n run)

abbrev pub extra_of : Kind → List (List ℕ) → Extra
extra_of kind.Spares items = spares items
extra_of (kind.Parity n) items = parity n items

-- the datagram that the writer's input describes
abbrev pub carried_of : ℕ → List ℕ → Kind → List ℕ → List ℕ → Carried
carried_of number packet kind lengths run = record { number = number; packet = packet; extra = extra_of kind (cut lengths run) }

-- ---- what is refused

-- a true sum: nothing wraps (rule 2.34)
unfoldable pub sum_of : List ℕ → ℕ
sum_of [] = 0
sum_of (n ∷ lengths) = n + sum_of lengths

-- n and the count are inside the sizes (rule 4.9)
abbrev pub count_inside : Kind → ℕ → Bool
count_inside kind.Spares count = leb count spares_limit
count_inside (kind.Parity n) count = within covered_least covered_limit n && within messages_least messages_limit count

-- the length of a spare (rule 4.10) or of a message (rule 1.7) is inside the sizes
abbrev pub item_inside : Kind → ℕ → Bool
item_inside kind.Spares n = within packet_least packet_limit n
item_inside (kind.Parity _) n = within message_least message_limit n

unfoldable pub items_inside : Kind → List ℕ → Bool
items_inside kind [] = true
items_inside kind (n ∷ lengths) = item_inside kind n && items_inside kind lengths

-- every length is inside the sizes: the newest packet's (rules 4.18 and 4.19), then those of the spares or messages
abbrev pub lengths_inside : List ℕ → Kind → List ℕ → Bool
lengths_inside packet kind lengths = within packet_least packet_limit (length packet) && items_inside kind lengths

-- what the datagram writer refuses, in order: 4 for n or a count, 15 for the sum, 4 for a length (rule 4.17); then what it writes if no
-- row applies
abbrev pub datagram_writer_rows : List ℕ → Kind → List ℕ → List ℕ → List (Option Reason)
datagram_writer_rows packet kind lengths run =
    when (not (count_inside kind (length lengths))) outside_sizes
    ∷ when (not (eqb (sum_of lengths) (length run))) wrong_settings
    ∷ when (not (lengths_inside packet kind lengths)) outside_sizes
    ∷ []

unfoldable pub datagram_to_write : ℕ → List ℕ → Kind → List ℕ → List ℕ → Answer (List ℕ)
datagram_to_write number packet kind lengths run =
    unless (datagram_writer_rows packet kind lengths run) (datagram_octets (carried_of number packet kind lengths run))
