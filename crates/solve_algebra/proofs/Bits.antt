-- Laws of the bits of a number. Assumes nothing.
use Prim.Native.Nat.{ℕ, zero, suc, ◌/◌, ◌%◌, ◌^◌, ◌<◌}
use mathlib.Core.Path.{◌≡◌, refl, ap, ◌∙◌}
use mathlib.Core.Bool.{false, ◌&&◌, xor}
use lib.Bits.{bit_xor, bit_and, and_mask, xor_shr, xor_mod, and_shr, and_mod}
use lib.Dec.{eqb}
use native.Mathlib.Nat.{mod-lt, zero-div}
use native.Mathlib.Omega.{arith}
use Rattle.solve_algebra.specs.Masks.{has_place}
use Rattle.solve_algebra.specs.MasksPromise.{HasTold}

-- as the code tests it
pub bit-tested : (mask p : ℕ) → HasTold mask p (eqb (bit_and (mask / 2 ^ p) 1) 1)
unfolding has_place
bit-tested mask p = record { answer = ap (λ (x : ℕ). eqb x 1) (and_mask (mask / 2 ^ p) 1) }

pub no-bit : (p : ℕ) → has_place 0 p ≡ false
unfolding has_place
no-bit p = ap (λ (x : ℕ). eqb (x % 2) 1) (zero-div (2 ^ p))

-- ---- of two digits
xor-digits : (x y : ℕ) → x < 2 → y < 2 → eqb (bit_xor x y) 1 ≡ xor (eqb x 1) (eqb y 1)
unfolding xor
xor-digits zero zero hx hy = refl
xor-digits zero (suc zero) hx hy = refl
xor-digits zero (suc (suc y)) hx hy = absurd (omega arith)
xor-digits (suc zero) zero hx hy = refl
xor-digits (suc zero) (suc zero) hx hy = refl
xor-digits (suc zero) (suc (suc y)) hx hy = absurd (omega arith)
xor-digits (suc (suc x)) y hx hy = absurd (omega arith)

and-digits : (x y : ℕ) → x < 2 → y < 2 → eqb (bit_and x y) 1 ≡ (eqb x 1 && eqb y 1)
and-digits zero zero hx hy = refl
and-digits zero (suc zero) hx hy = refl
and-digits zero (suc (suc y)) hx hy = absurd (omega arith)
and-digits (suc zero) zero hx hy = refl
and-digits (suc zero) (suc zero) hx hy = refl
and-digits (suc zero) (suc (suc y)) hx hy = absurd (omega arith)
and-digits (suc (suc x)) y hx hy = absurd (omega arith)

-- ---- the bits of two masks put together
pub bit-xor : (a b p : ℕ) → has_place (bit_xor a b) p ≡ xor (has_place a p) (has_place b p)
unfolding has_place
bit-xor a b p =
    ap (λ (x : ℕ). eqb (x % 2) 1) (xor_shr a b p)
    ∙ ap (λ (x : ℕ). eqb x 1) (xor_mod (a / 2 ^ p) (b / 2 ^ p) 1)
    ∙ xor-digits (a / 2 ^ p % 2) (b / 2 ^ p % 2) (mod-lt (a / 2 ^ p) (omega arith)) (mod-lt (b / 2 ^ p) (omega arith))

pub bit-and : (a b p : ℕ) → has_place (bit_and a b) p ≡ (has_place a p && has_place b p)
unfolding has_place
bit-and a b p =
    ap (λ (x : ℕ). eqb (x % 2) 1) (and_shr a b p)
    ∙ ap (λ (x : ℕ). eqb x 1) (and_mod (a / 2 ^ p) (b / 2 ^ p) 1)
    ∙ and-digits (a / 2 ^ p % 2) (b / 2 ^ p % 2) (mod-lt (a / 2 ^ p) (omega arith)) (mod-lt (b / 2 ^ p) (omega arith))
