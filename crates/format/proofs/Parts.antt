-- The laws of the parts of a format that are bits: flags, numbers, padding and places. Assumes nothing.
use Prim.Native.Nat.{ℕ, ◌/◌, ◌<◌}
use mathlib.Core.Path.{◌≡◌, refl, sym, ap}
use mathlib.Core.Bool.{Bool, true, false}
use mathlib.Core.List.{List, [], ◌∷◌}
use lib.Dec.{ltb, eqb}
use lib.Pow.{pow_pos}
use native.Mathlib.Omega.{arith}
use borrow.Author.Tests.{ltb-true, ltb-false, eqb-true}
use Rattle.length.specs.Refusals.{spare_bit}
use Rattle.format.specs.Spelling.{bit, spelt, wide, gap}
use Rattle.format.specs.Reading.{found}
use Rattle.format.specs.Reading as reading
use Rattle.format.specs.Format.{flag_bit, flag, bits, align, here}
use Rattle.format.proofs.Standing.{Reads, Spells, stepped, passed, reads_made, reads-bit, reads-spelt, bit-form, bits-form}
use Rattle.format.proofs.Standing.{spells-none}
use Rattle.format.proofs.Lawful.{Formed, formed-none, formed-spelt, Lawful, back-same}

flag-reads : (b : Bool) (p : ℕ) → Reads reading.flag p b (bit (flag_bit b) ∷ [])
unfolding reading.flag
flag-reads true p = reads_made (λ x. ltb 0 x) reads-bit
flag-reads false p = reads_made (λ x. ltb 0 x) reads-bit

flag-back : (b : ℕ) → b < 2 → flag_bit (ltb 0 b) ≡ b
flag-back b small = by (ltb 0 b) refl where
  by : (t : Bool) → ltb 0 b ≡ t → flag_bit t ≡ b
  by true e = omega (arith, ltb-true 0 b e)
  by false e = omega (arith, ltb-false 0 b e)

flag-formed : (b : Bool) (p : ℕ) → Formed p (bit (flag_bit b) ∷ [])
unfolding Formed
flag-formed true p = (omega arith, tt)
flag-formed false p = (omega arith, tt)

pub lawful-flag : Lawful flag
unfolding reading.flag
lawful-flag =
    record {
      reads = λ b p fits. flag-reads b p;
      formed = λ b p fits. flag-formed b p;
      back =
          λ s i p b q small e.
          let first = stepped (reading.bit s i p) _ b q e in
          let form = bit-form s i p first.value first.at first.was in
          let is : ltb 0 first.value ≡ b = cc in
          let next : first.at ≡ q = cc in
          back-same {f = flag} (record { fits = tt; spells = spelled first.value form.small form.spells }) is next;
    } where
      spelled : {s : List ℕ} {p q : ℕ} (b : ℕ) → b < 2 → Spells s p q (bit b ∷ []) → Spells s p q (bit (flag_bit (ltb 0 b)) ∷ [])
      spelled b small x = rw (flag-back b small) x

pub lawful-bits : (n : ℕ) → Lawful (bits n)
lawful-bits n =
    record {
      reads = λ v p fits. reads-spelt n fits;
      formed = λ v p fits. formed-spelt n v p;
      back = λ s i p v q small e. let x = bits-form n s i p v q e in record { fits = x.small; spells = x.spells };
    }

pub lawful-align : Lawful align
unfolding reading.align
lawful-align =
    record {
      reads =
          λ u p fits.
          record { reads = λ s i st. rw ((reads-spelt (gap p) {p = p} {v = 0} (pow_pos (gap p))).reads s (p / 8) st) };
      formed = λ u p fits. formed-spelt (gap p) 0 p;
      back =
          λ s i p u q small e.
          let first = stepped (reading.bits (gap p) s (p / 8) p) _ u q e in
          let form = bits-form (gap p) s (p / 8) p first.value first.at first.was in
          let pass = passed spare_bit (eqb first.value 0) s (p / 8) first.at u q first.gave in
          record {
            fits = tt;
            spells = padded (gap p) first.value (eqb-true first.value 0 pass.holds) (sym pass.stays) form.spells;
          };
    } where
      padded : {s : List ℕ} (n : ℕ) {p m q : ℕ} (v : ℕ) → v ≡ 0 → m ≡ q → Spells s p m (spelt n v) → Spells s p q (spelt n 0)
      padded n v none next x = rw (none, next) at x

pub lawful-here : Lawful here
unfolding wide
lawful-here =
    record {
      reads = λ x p fits. record { reads = λ s i st. rw fits (ap (found (p / 8)) (omega arith)) };
      formed = λ x p fits. formed-none p;
      back = λ s i p x q small e. record { fits = cc; spells = spells-none (cc) };
    }
