-- What the description reads of the first item of a packet is what its octets say. Assumes nothing.
use Prim.Native.Nat.{ℕ, ◌+◌, ◌*◌, ◌≤◌}
use mathlib.Core.Path.{◌≡◌, refl}
use mathlib.Core.Bool.{Bool, true, false}
use mathlib.Core.List.{List}
use lib.ListN.{length}
use lib.Dec.{ltb}
use native.Mathlib.Omega.{arith}
use borrow.Author.Tests.{ltb-true, ltb-false}
use Rattle.length.specs.Answers.{Answer, done, refused}
use Rattle.format.specs.Reading.{found}
use Rattle.format.specs.Places.{edge_at}
use Rattle.format.proofs.Laws.{onward, flag-cut, edge-at}
use Rattle.packet.specs.Edition.{Edition, values}
use Rattle.packet.specs.Packet.{type_of_msg, start, right_fields}
use Rattle.packet_laws.specs.Octets.{bit_set_at, kind_of, NarrowEdition, Value, value_at, first_at}
use Rattle.packet_laws.proofs.AtValue.{bit-here, value-cut, value-at}
use Rattle.packet_laws.proofs.ReadLaws.{value-ends}

module _ (edition : Edition) (narrow : NarrowEdition edition) (s : List ℕ) (i : ℕ) where
  pub start-at : (start edition).read s i 0 ≡ onward (first_at edition s) (λ f. found f.first (8 * f.octets))
  unfolding start type_of_msg first_at
  start-at = by (ltb (length s) 1) refl where
    edge : 1 ≤ length s → (v : Value) → value_at (values edition (kind_of s)) 0 s 2 ≡ done v → (x : Answer ℕ) → edge_at s v.next ≡ x
        → (r : Bool) → right_fields (kind_of s) (bit_set_at s 0) ≡ r
        → (start edition).read s i 0 ≡ onward (first_at edition s) (λ f. found f.first (8 * f.octets))
    edge some v ve (done at) ee true re =
        rw (
          bit-here s 0 0 (omega arith),
          bit-here s 0 1 (omega arith),
          value-at (values edition (kind_of s)) (narrow.of_kind (kind_of s)) s 0 2,
          ve,
          edge-at s 0 v.next (value-ends (values edition (kind_of s)) 0 s 2 v ve),
          ee,
          re,
        )
    edge some v ve (done at) ee false re =
        rw (
          bit-here s 0 0 (omega arith),
          bit-here s 0 1 (omega arith),
          value-at (values edition (kind_of s)) (narrow.of_kind (kind_of s)) s 0 2,
          ve,
          edge-at s 0 v.next (value-ends (values edition (kind_of s)) 0 s 2 v ve),
          ee,
          re,
        )
    edge some v ve (refused why) ee r re =
        rw (
          bit-here s 0 0 (omega arith),
          bit-here s 0 1 (omega arith),
          value-at (values edition (kind_of s)) (narrow.of_kind (kind_of s)) s 0 2,
          ve,
          edge-at s 0 v.next (value-ends (values edition (kind_of s)) 0 s 2 v ve),
          ee,
        )

    value : 1 ≤ length s → (x : Answer Value) → value_at (values edition (kind_of s)) 0 s 2 ≡ x
        → (start edition).read s i 0 ≡ onward (first_at edition s) (λ f. found f.first (8 * f.octets))
    value some (done v) ve = edge some v ve (edge_at s v.next) refl _ refl
    value some (refused why) ve =
        rw (
          bit-here s 0 0 (omega arith),
          bit-here s 0 1 (omega arith),
          value-at (values edition (kind_of s)) (narrow.of_kind (kind_of s)) s 0 2,
          ve,
        )

    by : (b : Bool) → ltb (length s) 1 ≡ b
        → (start edition).read s i 0 ≡ onward (first_at edition s) (λ f. found f.first (8 * f.octets))
    by true short =
        let none = ltb-true (length s) 1 short in
        rw (flag-cut s 0 0 (omega arith), value-cut (values edition (kind_of s)) (narrow.of_kind (kind_of s)) s 0 2 (omega arith))
    by false long = value (ltb-false (length s) 1 long) (value_at (values edition (kind_of s)) 0 s 2) refl
