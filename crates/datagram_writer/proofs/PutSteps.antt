-- The item writers, in the words of the code: one law for each answer. Assumes nothing.
use Rattle.std.proofs.Common.{Result, Ok, Err}
use Prim.Native.Nat.{ℕ, ◌+◌, ◌-◌, ◌/◌, ◌%◌, ◌≤◌}
use mathlib.Core.Path.{◌≡◌}
use mathlib.Core.List.{List, [], ◌∷◌}
use lib.ListN.{length}
use native.Mathlib.Omega.{arith}
use borrow.Author.Tests.{le-ltb, le-leb}
use borrow.Rule.Slice.PartMut.{mid_of, put_mid}
use Rattle.length.specs.Answers.{done, refused, fitted, size_of}
use Rattle.length.specs.Tables.{unless}
use Rattle.length.specs.Length.{length_octets, length_to_write, length_limit}
use Rattle.length.specs.Promise.{Puts, Put}
use Rattle.length.specs.declared.Refusal.{Refusal}
use Rattle.length.proofs.Laws.{put_next}
use Rattle.datagram.specs.Write.{number_octets, item_octets}
use Rattle.datagram.specs.Inner.Heads.{item_size, FrontAsked}
use Rattle.datagram.specs.declared.kind.Kind.{Kind}
use Rattle.datagram.proofs.Laws.{number-length, front_length}

-- ---- put_length
length-fitted : (n : ℕ) (old : List ℕ) → n ≤ length_limit → length (length_octets n) ≤ length old
    → fitted (length_to_write n) old ≡ done (length_octets n)
unfolding length_to_write unless
length-fitted n old fits room = rw (le-ltb length_limit n fits, le-leb (length (length_octets n)) (length old) room)

module _ (n : ℕ) {old new : List ℕ} (fits : n ≤ length_limit) (room : length (length_octets n) ≤ length old) where
  pub length-put : {r : Result ℕ Refusal} {size : ℕ} → r ≡ Ok size → Puts (length_to_write n) old new r
      → Put (length_octets n) old new size
  length-put {r} {size} e p =
      let given = length-fitted n old fits room in
      let told : done size ≡ size_of (fitted (length_to_write n) old) = rw e at p.answer in
      let size-told : done size ≡ done (length (length_octets n)) = rw given at told in
      record { inside = room; answer = cc; lent = rw given at p.lent }

  pub length-never : {r : Result ℕ Refusal} {why : Refusal} → r ≡ Err why → Puts (length_to_write n) old new r
      → Put (length_octets n) old new 0
  length-never {r} {why} e p =
      let given = length-fitted n old fits room in
      let told : refused why ≡ size_of (fitted (length_to_write n) old) = rw e at p.answer in
      let never : refused why ≡ done (length (length_octets n)) = rw given at told in
      let z : ◌≡◌ {A = ℕ} 0 1 = cc in
      absurd (omega arith)

-- ---- put_number
pub number_put : (number : ℕ) {old new : List ℕ} {n : ℕ} → Put (number / 256 ∷ number % 256 ∷ []) old new n
    → Put (number_octets number) old new n
unfolding number_octets
number_put number p = p

-- ---- put_item
pub item-put : (item : List ℕ) {old mid part : List ℕ} {at n : ℕ} → Put (length_octets (length item)) old mid at
    → Put item (mid_of at (length mid - at) mid) part n → Put (item_octets item) old (put_mid at (length mid - at) mid part) (at + n)
unfolding item_octets
item-put item p q = put_next p q

-- ---- put_front
module _ {number : ℕ} {packet : List ℕ} {k : Kind} {count : ℕ} {old : List ℕ} (asked : FrontAsked number packet k count old) where
  pub head-asked : (length packet ≤ length_limit) × (length (number_octets number) + item_size (length packet) ≤ length old)
  head-asked =
      let size = front_length number packet k count in
      let two = number-length number in
      let room = asked.room in
      (asked.newest, omega arith)

pub ruleset puts = (length-put, length-never, number_put, item-put)
