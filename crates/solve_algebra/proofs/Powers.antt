-- The mask of one place, computed for all 64, and the sum over the mask of several. Assumes nothing.
use Prim.Native.Nat.{ℕ, ◌*◌, ◌%◌, ◌^◌, ◌<◌}
use mathlib.Core.Path.{◌≡◌, refl, sym, ap₂, ◌∙◌}
use mathlib.Core.Bool.{Bool, true, false, beq, xor}
use mathlib.Core.List.Memᴰ.{head as here}
use mathlib.Core.List.Memᴰ.{tail as further}
use mathlib.Core.List.{List, [], ◌∷◌, map, Memᴰ as Among}
use lib.ListN.{get_or}
use lib.Bits.{bit_xor}
use lib.Dec.{eqb}
use borrow.Author.Tests.{eq-eqb, ne_eqb, eqb-true}
use Rattle.octets.specs.Place.{all_below}
use Rattle.octets.specs.ExclusiveOr.{xor_at}
use Rattle.octets.proofs.Laws.{all_below-at}
use Rattle.solve_algebra.specs.Sums.{sum_over}
use Rattle.solve_algebra.specs.Systems.{Alone}
use Rattle.solve_algebra.proofs.LinearLaws.{sum_same, sum-none, sum-combined, sum-alone}
use Rattle.solve_algebra.specs.Masks.{mask_places, has_place, mask_of}
use Rattle.solve_algebra.specs.MasksPromise.{OneMade}
use Rattle.solve_algebra.proofs.Bits.{bit-xor, no-bit}

-- ---- one, shifted by a place, is within 64 bits
all-shifted : all_below mask_places (λ p. eqb ((1 * 2 ^ p) % 2 ^ mask_places) (2 ^ p)) ≡ true
unfolding all_below
all-shifted = refl

pub shifted_one : (p : ℕ) → p < mask_places → OneMade p ((1 * 2 ^ p) % 2 ^ mask_places)
shifted_one p below =
    record {
      answer =
          eqb-true ((1 * 2 ^ p) % 2 ^ mask_places) (2 ^ p)
          (all_below-at mask_places (λ q. eqb ((1 * 2 ^ q) % 2 ^ mask_places) (2 ^ q)) all-shifted p below);
    }

-- ---- the bits of a power of two
one_bit : ℕ → ℕ → Bool
one_bit p q = beq (has_place (2 ^ p) q) (eqb q p)

all-bits : all_below mask_places (λ p. all_below mask_places (one_bit p)) ≡ true
unfolding all_below has_place one_bit
all-bits = refl

beq-says : (a b : Bool) → beq a b ≡ true → a ≡ b
beq-says true true e = refl
beq-says true false e = sym e
beq-says false true e = e
beq-says false false e = refl

pub bit-power : (p q : ℕ) → p < mask_places → q < mask_places → has_place (2 ^ p) q ≡ eqb q p
unfolding one_bit
bit-power p q hp hq =
    beq-says (has_place (2 ^ p) q) (eqb q p)
    (all_below-at mask_places (one_bit p) (all_below-at mask_places (λ p. all_below mask_places (one_bit p)) all-bits p hp) q hq)

power-alone : (p : ℕ) → p < mask_places → Alone mask_places (has_place (2 ^ p)) p
power-alone p inside =
    record {
      has = bit-power p p inside inside ∙ eq-eqb p p refl;
      others = λ c below other. bit-power p c inside below ∙ ne_eqb c p other;
    }

-- ---- the sum over the mask of some places is the exclusive or of what stands there
pub sum-mask : (x : ℕ → List ℕ) (k : ℕ) (ps : List ℕ) → ((p : ℕ) → Among p ps → p < mask_places)
    → sum_over mask_places (has_place (mask_of ps)) (λ p. get_or (x p) k 0) ≡ xor_at (map x ps) k
unfolding mask_of xor_at
sum-mask x k [] inside = sum-none mask_places (has_place 0) (λ p. get_or (x p) k 0) (λ c below. no-bit c)
sum-mask x k (p ∷ ps) inside =
    sum_same mask_places (has_place (bit_xor (2 ^ p) (mask_of ps))) (λ c. xor (has_place (2 ^ p) c) (has_place (mask_of ps) c)) (λ q. get_or (x q) k 0)
    (λ q. get_or (x q) k 0) (λ c below. bit-xor (2 ^ p) (mask_of ps) c) (λ c below e. refl)
    ∙ sum-combined mask_places (has_place (2 ^ p)) (has_place (mask_of ps)) (λ q. get_or (x q) k 0)
    ∙ ap₂ bit_xor (sum-alone mask_places (has_place (2 ^ p)) (λ q. get_or (x q) k 0) p (inside p (here refl)) (power-alone p (inside p (here refl))))
    (sum-mask x k ps (λ q m. inside q (further m)))
