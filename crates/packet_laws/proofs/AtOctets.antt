-- What the description reads of the items after the first, each from its place on, is what stands there octet by octet.
-- Assumes nothing.
use Prim.Native.Nat.{ℕ, ◌+◌, ◌-◌, ◌*◌, ◌/◌, ◌%◌, ◌≤◌, ◌<◌}
use mathlib.Core.Path.{◌≡◌, refl, ap}
use mathlib.Core.Bool.{Bool, true, false}
use mathlib.Core.List.{List, [], ◌∷◌}
use lib.ListN.{length, get_or, take, drop, length-drop}
use lib.Dec.{leb, ltb}
use native.Mathlib.Omega.{arith}
use borrow.Author.Tests.{le-leb, lt-leb, ltb-true, ltb-false}
use Rattle.length.specs.Refusals.{refusal_at, ends_early}
use Rattle.length.specs.Answers.{Answer, done, refused, read_from, ◌>>=◌, LengthAnswer}
use Rattle.length.specs.Length.{length_octets, length_limit, within, length_within}
use Rattle.format.specs.Format.{length_found, two_front, octets_front, two_octets, octets}
use Rattle.datagram.specs.Sizes.{packet_limit}
use Rattle.format.specs.Reading.{Finding, found, stopped, and_then, found_from}
use Rattle.format.specs.Places.{Place, edge_at}
use Rattle.format.proofs.Laws.{onward, flag-cut, octetwise-at, octetwise-edge}
use Rattle.packet.specs.Edition.{Edition}
use Rattle.packet.specs.Packet.{count, header, size, field_data, right_data, fields_least, fields_limit}
use Rattle.packet_laws.specs.Octets.{bit_set_at, NarrowEdition, Value, value_at, Count, count_at, header_at, size_at}
use Rattle.packet_laws.proofs.AtValue.{bit-here, value-cut, value-at}

-- ---- the count of fields
pub count_at_lem : (s : List ℕ) (i at : ℕ) → count.read s i (8 * at) ≡ onward (count_at s at true) (λ c. found c.value c.next)
unfolding count count_at
count_at_lem s i at =
    rw (octetwise-edge (λ t. length_found (length_within fields_least fields_limit t)) length_octets
    (λ n. (n ≤ length_limit) × (within fields_least fields_limit n ≡ true)) s i at)
    (by (length_within fields_least fields_limit (drop at s))) where
      by : (x : Answer LengthAnswer)
          → and_then (found_from at (length_found x)) (λ a n. found a (8 * n + 8 * at))
          ≡ onward {A = Count} (◌>>=◌ (read_from at x) (λ n. done (record { value = n.value; next = 8 * (at + n.size) })))
          (λ c. found c.value c.next)
      by (done a) = let next : 8 * a.size + 8 * at ≡ 8 * (at + a.size) = omega arith in rw next
      by (refused r) = refl

-- ---- a field's header
module _ (edition : Edition) (narrow : NarrowEdition edition) (s : List ℕ) (p : Place) where
  -- inside the item that begins with it
  pub header-at : (header edition).read s (p / 8) p ≡ onward (header_at edition s p) (λ h. found h.header h.next)
  unfolding header header_at
  header-at = by (ltb p (8 * length s)) refl where
    right : p < 8 * length s → (v : Value) → value_at edition.types (p / 8) s (p + 1) ≡ done v
        → (r : Bool) → right_data edition v.value (bit_set_at s p) ≡ r
        → (header edition).read s (p / 8) p ≡ onward (header_at edition s p) (λ h. found h.header h.next)
    right here v ve true re =
        rw (bit-here s (p / 8) p here, value-at edition.types narrow.of_types s (p / 8) (p + 1), ve, re)
    right here v ve false re =
        rw (bit-here s (p / 8) p here, value-at edition.types narrow.of_types s (p / 8) (p + 1), ve, re)

    value : p < 8 * length s → (x : Answer Value) → value_at edition.types (p / 8) s (p + 1) ≡ x
        → (header edition).read s (p / 8) p ≡ onward (header_at edition s p) (λ h. found h.header h.next)
    value here (done v) ve = right here v ve _ refl
    value here (refused r) ve =
        rw (bit-here s (p / 8) p here, value-at edition.types narrow.of_types s (p / 8) (p + 1), ve)

    by : (b : Bool) → ltb p (8 * length s) ≡ b
        → (header edition).read s (p / 8) p ≡ onward (header_at edition s p) (λ h. found h.header h.next)
    by true some = value (ltb-true p (8 * length s) some) (value_at edition.types (p / 8) s (p + 1)) refl
    by false none =
        let past = ltb-false p (8 * length s) none in
        rw (flag-cut s (p / 8) p past, value-cut edition.types narrow.of_types s (p / 8) (p + 1) (omega arith))

-- ---- the data of a field
two_at : (s : List ℕ) (i : ℕ) (p : Place) → p ≤ 8 * length s
    → (two_octets (packet_limit - 1)).read s i p
    ≡ onward (edge_at s p) (λ at. and_then (found_from at (two_front (packet_limit - 1) (drop at s))) (λ v n. found v (8 * n + 8 * at)))
two_at s i p inside =
    octetwise-at (two_front (packet_limit - 1)) (λ v. (v / 256) ∷ (v % 256) ∷ []) (λ v. v ≤ packet_limit - 1) s i p inside

octets-at : (n : ℕ) (s : List ℕ) (i at : ℕ)
    → (octets n).read s i (8 * at) ≡ and_then (found_from at (octets_front n (drop at s))) (λ l k. found l (8 * k + 8 * at))
octets-at n s i at = octetwise-edge (octets_front n) (λ l. l) (λ l. length l ≡ n) s i at

-- a length is over the limit, or not, as the number before it is
over : (v : ℕ) → ltb packet_limit (v + 1) ≡ true → leb v (packet_limit - 1) ≡ false
over v e = lt-leb v (packet_limit - 1) (omega (arith, ltb-true packet_limit (v + 1) e))

few : (v : ℕ) → ltb packet_limit (v + 1) ≡ false → leb v (packet_limit - 1) ≡ true
few v e = le-leb v (packet_limit - 1) (omega (arith, ltb-false packet_limit (v + 1) e))

-- the length and the data, from an octet edge on
abbrev pub data_from : List ℕ → ℕ → Finding (ℕ × List ℕ)
data_from s at = onward (read_from at (size_at (drop at s))) (λ n. found (at + 2, take n (drop (at + 2) s)) (8 * (at + 2 + n)))

pub data-at : (s : List ℕ) (i : ℕ) (p : Place) → p ≤ 8 * length s
    → field_data.read s i p ≡ onward (edge_at s p) (data_from s)
unfolding field_data size size_at two_front octets_front
data-at s i p inside = by (edge_at s p) refl where
  told : (at : ℕ) (a b c : Bool) → edge_at s p ≡ done at → ltb (length (drop at s)) 2 ≡ a
      → ltb packet_limit (get_or (drop at s) 0 0 * 256 + get_or (drop at s) 1 0 + 1) ≡ b
      → ltb (length (drop at s) - 2) (get_or (drop at s) 0 0 * 256 + get_or (drop at s) 1 0 + 1) ≡ c
      → field_data.read s i p ≡ onward (edge_at s p) (data_from s)
  told at true b c e ae be ce = rw (two_at s i p inside, e, ae)
  told at false true c e ae be ce = rw (two_at s i p inside, e, ae, be, over (get_or (drop at s) 0 0 * 256 + get_or (drop at s) 1 0) be)
  told at false false true e ae be ce =
      let start : 8 * 2 + 8 * at ≡ 8 * (at + 2) = omega arith in
      let left : length (drop at s) - 2 ≡ length (drop (at + 2) s) = omega (arith, length-drop at s, length-drop (at + 2) s) in
      rw (
        two_at s i p inside,
        e,
        ae,
        be,
        few (get_or (drop at s) 0 0 * 256 + get_or (drop at s) 1 0) be,
        start,
        octets-at (get_or (drop at s) 0 0 * 256 + get_or (drop at s) 1 0 + 1) s i (at + 2),
        ce,
        ← left,
        ce,
      )
      (ap (λ (place : ℕ). stopped (refusal_at place ends_early)) (omega arith))
  told at false false false e ae be ce =
      let n = get_or (drop at s) 0 0 * 256 + get_or (drop at s) 1 0 + 1 in
      let start : 8 * 2 + 8 * at ≡ 8 * (at + 2) = omega arith in
      let left : length (drop at s) - 2 ≡ length (drop (at + 2) s) = omega (arith, length-drop at s, length-drop (at + 2) s) in
      let octet : 8 * (at + 2) / 8 ≡ at + 2 = omega arith in
      let next : 8 * n + 8 * (at + 2) ≡ 8 * (at + 2 + n) = omega arith in
      rw (
        two_at s i p inside,
        e,
        ae,
        be,
        few (get_or (drop at s) 0 0 * 256 + get_or (drop at s) 1 0) be,
        start,
        octets-at (get_or (drop at s) 0 0 * 256 + get_or (drop at s) 1 0 + 1) s i (at + 2),
        ce,
        ← left,
        ce,
        octet,
        next,
      )

  by : (x : Answer ℕ) → edge_at s p ≡ x
      → field_data.read s i p ≡ onward (edge_at s p) (data_from s)
  by (done at) e = told at _ _ _ e refl refl refl
  by (refused r) e = rw (two_at s i p inside, e)
