-- What the description reads of a value of an ENUMERATED type is what the octets say from its place on. Assumes nothing.
use Prim.Native.Nat.{ℕ, zero, suc, ◌+◌, ◌*◌, ◌-◌, ◌/◌, ◌%◌, ◌^◌, ◌≤◌, ◌<◌}
use mathlib.Core.Path.{◌≡◌, refl, ap, ◌∙◌}
use mathlib.Core.Bool.{Bool, true, false, cond}
use mathlib.Core.List.{List}
use lib.ListN.{length, get_or, get_or-eq_default}
use lib.Dec.{ltb}
use native.Mathlib.Nat.{mod-lt, zero-div}
use native.Mathlib.Omega.{arith}
use borrow.Author.Tests.{lt-ltb, le-ltb, ltb-true, ltb-false}
use Rattle.length.specs.Refusals.{refusal_at, ends_early, not_assigned}
use Rattle.length.specs.Answers.{Answer, done, refused, refuse_at}
use Rattle.format.specs.Reading.{Finding, found, stopped, and_then, stop}
use Rattle.format.specs.Reading as reading
use Rattle.format.specs.Places.{Place, bits_at}
use Rattle.format.proofs.Laws.{onward, flag-cut, bits-at, bits-cut, parted}
use Rattle.packet.specs.Edition.{added_width}
use Rattle.packet.specs.Packet.{root, addition, enumerated}
use Rattle.packet.specs.declared.types.Enumerated.{Enumerated}
use Rattle.packet_laws.specs.Octets.{bit_set_at, Narrow, Value, root_at, added_at, value_at}

-- ---- one bit
lone : (v : ℕ) → v < 2 → v / 1 % 2 ≡ v
lone zero small = refl
lone (suc zero) small = refl
lone (suc (suc v)) small = absurd (omega arith)

module _ (s : List ℕ) (i : ℕ) (p : Place) where
  pub bit-here : p < 8 * length s → reading.flag s i p ≡ found (bit_set_at s p) (p + 1)
  bit-here some =
      let one = parted 0 s i p (bits_at 1 s p) (1 + p) (bits-at 1 s i p (omega (arith, mod-lt p {m = 8} (omega arith))) (omega arith)) in
      let same = lone (bits_at 1 s p) (mod-lt _ (omega arith)) in
      let next : 1 + p ≡ p + 1 = omega arith in
      one.first ∙ ap (λ (v : ℕ). found (ltb 0 v) (1 + p)) same ∙ ap (λ (q : ℕ). found (bit_set_at s p) q) next

  -- bits past the end are 0
  pub bit_past : 8 * length s ≤ p → bit_set_at s p ≡ false
  bit_past none =
      rw (
        get_or-eq_default s 0 {n = p / 8} (omega arith),
        get_or-eq_default s 0 {n = p / 8 + 1} (omega arith),
        zero-div (2 ^ (16 - (p % 8 + 1))),
      )

  -- some bits are not all there
  bits-short : (n : ℕ) → 1 ≤ n → 8 * length s < p + n → reading.bits n s i p ≡ stop ends_early s i p
  bits-short zero some short = absurd (omega arith)
  bits-short (suc n) some short = bits-cut n s i p (omega arith)

  -- or they are
  pub bits-here : (n : ℕ) → n ≤ 8 → p + n ≤ 8 * length s → reading.bits n s i p ≡ found (bits_at n s p) (p + n)
  bits-here n few inside =
      let next : n + p ≡ p + n = omega arith in
      bits-at n s i p (omega (arith, mod-lt p {m = 8} (omega arith))) (omega arith) ∙ ap (λ (q : ℕ). found (bits_at n s p) q) next

-- ---- a value
abbrev pub value_found : Answer Value → Finding ℕ
value_found x = onward x (λ v. found v.value v.next)

module _ (e : Enumerated) (narrow : Narrow e) (s : List ℕ) (i : ℕ) where
  root-at : (p : Place) → (root e).read s i p ≡ value_found (root_at e i s p)
  unfolding root root_at
  root-at p = by (ltb (8 * length s) (p + e.width)) (ltb (bits_at e.width s p) e.assigned) refl refl where
    by : (t r : Bool) → ltb (8 * length s) (p + e.width) ≡ t → ltb (bits_at e.width s p) e.assigned ≡ r
        → (root e).read s i p ≡ value_found (root_at e i s p)
    by true r te re = rw (te, bits-short s i p e.width narrow.some (ltb-true (8 * length s) (p + e.width) te))
    by false true te re = rw (te, bits-here s i p e.width (omega (arith, narrow.few)) (ltb-false (8 * length s) (p + e.width) te), re)
    by false false te re = rw (te, bits-here s i p e.width (omega (arith, narrow.few)) (ltb-false (8 * length s) (p + e.width) te), re)

  added-at : (p : Place) → (addition e).read s i p ≡ value_found (added_at e i s p)
  unfolding addition added_at
  added-at p = by (ltb e.added 1) (ltb p (8 * length s)) refl refl where
    six : ltb e.added 1 ≡ false → p < 8 * length s → bit_set_at s p ≡ false → (t r : Bool)
        → ltb (8 * length s) (p + 1 + added_width) ≡ t → ltb (bits_at added_width s (p + 1)) e.added ≡ r
        → (addition e).read s i p ≡ value_found (added_at e i s p)
    six ne here be true r te re =
        rw (
          ne,
          lt-ltb 0 e.added (ltb-false e.added 1 ne),
          bit-here s i p here,
          be,
          te,
          bits-short s i (p + 1) added_width (omega arith) (ltb-true (8 * length s) (p + 1 + added_width) te),
        )
    six ne here be false true te re =
        rw (
          ne,
          lt-ltb 0 e.added (ltb-false e.added 1 ne),
          bit-here s i p here,
          be,
          te,
          bits-here s i (p + 1) added_width (omega arith) (ltb-false (8 * length s) (p + 1 + added_width) te),
          re,
        )
    six ne here be false false te re =
        rw (
          ne,
          lt-ltb 0 e.added (ltb-false e.added 1 ne),
          bit-here s i p here,
          be,
          te,
          bits-here s i (p + 1) added_width (omega arith) (ltb-false (8 * length s) (p + 1 + added_width) te),
          re,
        )

    zero_bit : ltb e.added 1 ≡ false → p < 8 * length s → (b : Bool) → bit_set_at s p ≡ b
        → (addition e).read s i p ≡ value_found (added_at e i s p)
    zero_bit ne here true be = rw (ne, lt-ltb 0 e.added (ltb-false e.added 1 ne), bit-here s i p here, be)
    zero_bit ne here false be = six ne here be _ _ refl refl

    by : (n t : Bool) → ltb e.added 1 ≡ n → ltb p (8 * length s) ≡ t → (addition e).read s i p ≡ value_found (added_at e i s p)
    by true t ne te = rw (ne, le-ltb 0 e.added (omega (arith, ltb-true e.added 1 ne)))
    by false true ne te = zero_bit ne (ltb-true p (8 * length s) te) _ refl
    by false false ne te =
        let past = ltb-false p (8 * length s) te in
        rw (
          ne,
          lt-ltb 0 e.added (ltb-false e.added 1 ne),
          flag-cut s i p past,
          bit_past s i p past,
          lt-ltb (8 * length s) (p + 1 + added_width) (omega arith),
        )

  -- a value that begins where the octets end, or after
  pub value-cut : (p : Place) → 8 * length s ≤ p → value_at e i s p ≡ refuse_at i ends_early
  unfolding value_at root_at
  value-cut p past =
      rw (
        bit_past s i p past,
        lt-ltb (8 * length s) (p + 1 + e.width) (omega (arith, narrow.some)),
        lt-ltb (8 * length s) (p + e.width) (omega (arith, narrow.some)),
      )
      (by e.extensible) where
        by : (x : Bool) → cond x (refuse_at i ends_early) (refuse_at i ends_early) ≡ refuse_at {A = Value} i ends_early
        by true = refl
        by false = refl

  each : (b : Bool) (x : Finding ℕ) → and_then {A = Bool × ℕ} (and_then x (λ v q. found (b, v) q)) (λ a q. found a.1 q) ≡ x
  each b (found v q) = refl
  each b (stopped r) = refl

  pub value-at : (p : Place) → (enumerated e).read s i p ≡ value_found (value_at e i s p)
  unfolding enumerated value_at root root_at addition added_at
  value-at p = by e.extensible refl where
    bit : e.extensible ≡ true → p < 8 * length s → (b : Bool) → bit_set_at s p ≡ b
        → (enumerated e).read s i p ≡ value_found (value_at e i s p)
    bit xe here true be = rw (xe, bit-here s i p here, be, added-at (p + 1)) (each true (value_found (added_at e i s (p + 1))))
    bit xe here false be = rw (xe, bit-here s i p here, be, root-at (p + 1)) (each false (value_found (root_at e i s (p + 1))))

    marked : e.extensible ≡ true → (t : Bool) → ltb p (8 * length s) ≡ t
        → (enumerated e).read s i p ≡ value_found (value_at e i s p)
    marked xe true te = bit xe (ltb-true p (8 * length s) te) _ refl
    marked xe false te =
        let past = ltb-false p (8 * length s) te in
        rw (value-cut p past, xe, flag-cut s i p past)

    by : (x : Bool) → e.extensible ≡ x → (enumerated e).read s i p ≡ value_found (value_at e i s p)
    by true xe = marked xe _ refl
    by false xe = rw (xe, root-at p) (each false (value_found (root_at e i s p)))
