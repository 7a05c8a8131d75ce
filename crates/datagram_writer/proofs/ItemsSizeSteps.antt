-- How many octets the items take, in the words of the code: one law for each answer, and for each turn of the loop over the
-- lengths. Assumes nothing.
use Prim.Native.Nat.{ℕ, ◌+◌, ◌*◌, ◌≤◌, ◌<◌}
use mathlib.Core.Path.{◌≡◌, ap}
use mathlib.Core.List.{List}
use lib.ListN.{length, get_or, drop, drop_of_length-le}
use native.Mathlib.Omega.{arith}
use Rattle.length.specs.Length.{length_limit}
use Rattle.length.proofs.Laws.{length_octets-one, length_octets-two}
use Rattle.datagram.specs.Write.{sum_of}
use Rattle.datagram.specs.Inner.Heads.{LengthSize, item_size, items_size}
use Rattle.datagram.proofs.Laws.{sum-next, size-next, items-bound}

-- ---- length_size
pub length-one : {n : ℕ} → n < 128 → LengthSize n 1
length-one {n} small = record { answer = rw (length_octets-one n small); small = omega arith }

pub length_two : {n : ℕ} → 128 ≤ n → LengthSize n 2
length_two {n} large = record { answer = rw (length_octets-two n large); small = omega arith }

-- ---- items_size
-- before a turn: the lengths before place i are counted
pub record Sizing (lengths : List ℕ) (size i : ℕ) : Type 0 where
  pub bound : i ≤ length lengths
  pub whole : items_size lengths ≤ length_limit + length lengths * 2
  pub few : sum_of (drop i lengths) ≤ length_limit
  pub left : size + items_size (drop i lengths) ≡ items_size lengths

-- in a turn: the length is small, and its item is one of the whole
pub record SizeTurn (lengths : List ℕ) (size n : ℕ) : Type 0 where
  pub small : n ≤ length_limit
  pub fits : size + item_size n ≤ length_limit + length lengths * 2

sizes-none : (lengths : List ℕ) (i : ℕ) → length lengths ≤ i → items_size (drop i lengths) ≡ 0
unfolding items_size
sizes-none lengths i end = rw (drop_of_length-le lengths end)

module _ {lengths : List ℕ} where
  pub sizing-start : sum_of lengths ≤ length_limit → Sizing lengths 0 0
  sizing-start few =
      let all = items-bound lengths in
      record { bound = omega arith; whole = omega arith; few = few; left = omega arith }

  pub sizing : {size i n : ℕ} → Sizing lengths size i → i < length lengths → n ≡ get_or lengths i 0 → SizeTurn lengths size n
  sizing {size} {i} {n} v more e =
      let sum = sum-next lengths i more in
      let sizes = size-next lengths i more in
      let same : item_size n ≡ item_size (get_or lengths i 0) = ap item_size e in
      record { small = omega arith; fits = omega arith }

  pub sizing-turn : {size i n s : ℕ} → Sizing lengths size i → i < length lengths → s ≡ item_size n → n ≡ get_or lengths i 0
      → Sizing lengths (size + s) (i + 1)
  sizing-turn {size} {i} {n} {s} v more found e =
      let sum = sum-next lengths i more in
      let sizes = size-next lengths i more in
      let same : item_size n ≡ item_size (get_or lengths i 0) = ap item_size e in
      record { bound = omega arith; whole = v.whole; few = omega arith; left = omega arith }

  pub sizing-done : {size i : ℕ} → Sizing lengths size i → length lengths ≤ i → size ≡ items_size lengths
  sizing-done {size} {i} v end = let none = sizes-none lengths i end in omega arith

-- the sizes' answers
pub ruleset sizes = (length-one, length_two, sizing-start, sizing-turn, sizing-done)
