-- Laws of how many octets the items of a datagram take: an item, one item more, and how many they are at most. Assumes nothing.
use Prim.Native.Nat.{ℕ, ◌+◌, ◌*◌, ◌≤◌, ◌<◌}
use mathlib.Core.Path.{◌≡◌, refl}
use mathlib.Core.List.{List, [], ◌∷◌, ◌++◌}
use lib.ListN.{length, get_or, drop, length-append}
use lib.Seq.{drop-cons}
use native.Mathlib.Numerals.{add-one}
use native.Mathlib.Omega.{arith}
use Rattle.length.specs.Length.{length_octets}
use Rattle.length.proofs.Laws.{size-written}
use Rattle.datagram.specs.Write.{number_octets, item_octets, sum_of}
use Rattle.datagram.specs.Inner.Heads.{kind_head, front_octets, item_size, items_size}
use Rattle.datagram.specs.declared.kind.Kind.{Kind}
use Rattle.datagram.specs.declared.kind.Kind.TheVariants as kind

-- ---- the number, and an item
pub number-length : (number : ℕ) → length (number_octets number) ≡ 2
unfolding number_octets
number-length number = refl

pub item-length : (item : List ℕ) → length (item_octets item) ≡ item_size (length item)
unfolding item_octets
item-length item = length-append (length_octets (length item)) item

pub front_length : (number : ℕ) (packet : List ℕ) (k : Kind) (count : ℕ)
    → length (front_octets number packet k count) ≡ 2 + item_size (length packet) + length (kind_head k count)
front_length number packet k count =
    rw (
      length-append (number_octets number ++ item_octets packet) (kind_head k count),
      length-append (number_octets number) (item_octets packet),
      number-length number,
      item-length packet,
    )

-- ---- one item more
pub sum-next : (lengths : List ℕ) (i : ℕ) → i < length lengths → sum_of (drop i lengths) ≡ get_or lengths i 0 + sum_of (drop (i + 1) lengths)
unfolding sum_of
sum-next lengths i more = rw (add-one, drop-cons lengths i 0 more)

pub size-next : (lengths : List ℕ) (i : ℕ) → i < length lengths
    → items_size (drop i lengths) ≡ item_size (get_or lengths i 0) + items_size (drop (i + 1) lengths)
unfolding items_size
size-next lengths i more = rw (add-one, drop-cons lengths i 0 more)

-- ---- at most
pub items-bound : (lengths : List ℕ) → items_size lengths ≤ sum_of lengths + length lengths * 2
unfolding items_size sum_of
items-bound [] = omega arith
items-bound (n ∷ lengths) = let rest = items-bound lengths in let few = (size-written n).1 in omega arith

pub kind-bound : (k : Kind) (count : ℕ) → length (kind_head k count) ≤ 5
kind-bound kind.Spares count = let few = (size-written count).1 in omega arith
kind-bound (kind.Parity n) count = let few = (size-written count).1 in omega arith
