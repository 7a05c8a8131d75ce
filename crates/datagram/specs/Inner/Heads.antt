-- What the item writers of a datagram require: the octets before the items, the size of each piece, and lengths that the length rule can
-- write. What they promise is `Put` of `length`. Each writes to the front of what is still free in the buffer (rule 30.3), and its caller
-- has checked that this is long enough. Definitions only.
use Rattle.std.specs.Prelude.{ℕ, ◌+◌, ◌≤◌, ◌≡◌, Bool, true, List, [], ◌∷◌, ◌++◌, length, ltb}
use Rattle.length.specs.Length.{length_octets, length_limit}
use Rattle.datagram.specs.Write.{number_octets, item_octets, sum_of}
use Rattle.datagram.specs.declared.kind.Kind.{Kind}
use Rattle.datagram.specs.declared.kind.Kind.TheVariants as kind

-- what comes before the spares: octet 00 and their count (rules 4.3 and 4.4)
abbrev pub spares_head : ℕ → List ℕ
spares_head count = 0x00 ∷ length_octets count

-- what comes before the messages: octets 80, 01 and n, and their count (rules 4.3 and 4.6)
abbrev pub parity_head : ℕ → ℕ → List ℕ
parity_head n count = 0x80 ∷ 0x01 ∷ n ∷ length_octets count

-- the same, by the kind
abbrev pub kind_head : Kind → ℕ → List ℕ
kind_head kind.Spares count = spares_head count
kind_head (kind.Parity n) count = parity_head n count

-- all of a datagram that comes before its spares or messages
abbrev pub front_octets : ℕ → List ℕ → Kind → ℕ → List ℕ
front_octets number packet kind count = number_octets number ++ item_octets packet ++ kind_head kind count

-- how many octets a length or count takes
pub record LengthSize (n r : ℕ) : Type 0 where
  pub answer : r ≡ length (length_octets n)
  pub small : r ≤ 2

-- how many octets an item of n octets takes, with its length
abbrev pub item_size : ℕ → ℕ
item_size n = length (length_octets n) + n

-- how many octets items of these lengths take
unfoldable pub items_size : List ℕ → ℕ
items_size [] = 0
items_size (n ∷ lengths) = item_size n + items_size lengths

-- how many octets a whole datagram takes
abbrev pub datagram_size : ℕ → List ℕ → Kind → List ℕ → ℕ
datagram_size number packet kind lengths =
    length (number_octets number) + item_size (length packet) + length (kind_head kind (length lengths)) + items_size lengths

-- n is one octet, and the length rule can write the count
abbrev pub n_fits : Kind → Bool
n_fits kind.Spares = true
n_fits (kind.Parity n) = ltb n 256

pub record KindFits (kind : Kind) (count : ℕ) : Type 0 where
  pub n : n_fits kind ≡ true
  pub counted : count ≤ length_limit

-- what the writer of all that comes before the spares or messages requires
pub record FrontAsked (number : ℕ) (packet : List ℕ) (kind : Kind) (count : ℕ) (out : List ℕ) : Type 0 where
  pub newest : length packet ≤ length_limit
  pub head : KindFits kind count
  pub room : length (front_octets number packet kind count) ≤ length out

-- what the item writers require of the input; only the room is still to be checked
pub record Bounded (packet : List ℕ) (kind : Kind) (lengths run : List ℕ) : Type 0 where
  pub newest : length packet ≤ length_limit
  pub head : KindFits kind (length lengths)
  pub summed : sum_of lengths ≡ length run
  pub few : length run ≤ length_limit
