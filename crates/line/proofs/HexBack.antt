-- A line that was written reads back to the same octets. Assumes nothing.
use Prim.Native.Nat.{ℕ, zero, suc, ◌+◌, ◌*◌, ◌/◌, ◌%◌, ◌<◌}
use mathlib.Core.Path.{◌≡◌, refl, ap, ◌∙◌}
use mathlib.Core.Bool.{true}
use mathlib.Core.List.{List, [], ◌∷◌}
use mathlib.Core.Logic.{⊎_elim}
use lib.ListN.{length, get_or}
use lib.Dec.{eqb, ltb}
use native.Mathlib.Omega.{arith}
use borrow.Author.Tests.{eq-eqb, eqb-true, lt-ltb, le-ltb}
use Rattle.octets.specs.Place.{tab, all_below}
use Rattle.octets.proofs.Laws.{all_below-at, all_below-of, tab-ext, tab-get_d, same_or_not}
use Rattle.length.specs.Answers.{done}
use Rattle.length.specs.Claims.{Octets}
use Rattle.length.specs.Tables.{unless}
use Rattle.line.specs.Hex.{line_limit, no_digit, digit_of, digit_for, all_digits, pair_at, octets_in, line_octets, hex_of}
use Rattle.line.specs.Claims.{WrittenReads}
use Rattle.line.proofs.HexLaws.{length-hex_of}

-- ---- digits
-- computed for each of the sixteen
all_back : all_below 16 (λ n. eqb (digit_of (digit_for n)) n) ≡ true
unfolding all_below digit_of digit_for
all_back = refl

digit-back : (n : ℕ) → n < 16 → digit_of (digit_for n) ≡ n
digit-back n small = eqb-true (digit_of (digit_for n)) n (all_below-at 16 (λ n. eqb (digit_of (digit_for n)) n) all_back n small)

hex_of-high : (octets : List ℕ) (k : ℕ) → k < length octets → get_or (hex_of octets) (2 * k) 0 ≡ digit_for (get_or octets k 0 / 16)
unfolding hex_of
hex_of-high [] k inside = absurd (omega (arith, inside))
hex_of-high (x ∷ octets) zero inside = refl
hex_of-high (x ∷ octets) (suc k) inside =
    let place : 2 * suc k ≡ suc (suc (2 * k)) = omega arith in
    ap (λ (j : ℕ). get_or (hex_of (x ∷ octets)) j 0) place ∙ hex_of-high octets k (omega (arith, inside))

hex_of-low : (octets : List ℕ) (k : ℕ) → k < length octets → get_or (hex_of octets) (2 * k + 1) 0 ≡ digit_for (get_or octets k 0 % 16)
unfolding hex_of
hex_of-low [] k inside = absurd (omega (arith, inside))
hex_of-low (x ∷ octets) zero inside = refl
hex_of-low (x ∷ octets) (suc k) inside =
    let place : 2 * suc k + 1 ≡ suc (suc (2 * k + 1)) = omega arith in
    ap (λ (j : ℕ). get_or (hex_of (x ∷ octets)) j 0) place ∙ hex_of-low octets k (omega (arith, inside))

-- ---- the line
module _ (octets : List ℕ) (small : Octets octets) where
  high : (k : ℕ) → k < length octets → digit_of (get_or (hex_of octets) (2 * k) 0) ≡ get_or octets k 0 / 16
  high k inside = ap digit_of (hex_of-high octets k inside) ∙ digit-back (get_or octets k 0 / 16) (omega (arith, small k))

  low : (k : ℕ) → k < length octets → digit_of (get_or (hex_of octets) (2 * k + 1) 0) ≡ get_or octets k 0 % 16
  low k inside = ap digit_of (hex_of-low octets k inside) ∙ digit-back (get_or octets k 0 % 16) (omega arith)

  pub digit_at : (j : ℕ) → j < length (hex_of octets) → digit_of (get_or (hex_of octets) j 0) < 16
  digit_at j inside =
      let k : j / 2 < length octets = omega (arith, length-hex_of octets) in
      ⊎_elim
      (λ even.
      let place : 2 * (j / 2) ≡ j = omega arith in
      omega (arith, ap (λ (i : ℕ). digit_of (get_or (hex_of octets) i 0)) place, high (j / 2) k, small (j / 2)))
      (λ odd.
      let place : 2 * (j / 2) + 1 ≡ j = omega arith in
      omega (arith, ap (λ (i : ℕ). digit_of (get_or (hex_of octets) i 0)) place, low (j / 2) k))
      (same_or_not (j % 2) 0)

  digits : all_digits (hex_of octets) ≡ true
  unfolding all_digits
  digits =
      all_below-of (length (hex_of octets)) (λ k. ltb (digit_of (get_or (hex_of octets) k 0)) no_digit)
      (λ j inside. lt-ltb (digit_of (get_or (hex_of octets) j 0)) 16 (digit_at j inside))

  octet-back : (k : ℕ) → k < length octets → pair_at (hex_of octets) k ≡ get_or octets k 0
  octet-back k inside = omega (arith, high k inside, low k inside)

  back : octets_in (hex_of octets) ≡ octets
  unfolding octets_in
  back =
      let many : length (hex_of octets) / 2 ≡ length octets = omega (arith, length-hex_of octets) in
      ap (λ (n : ℕ). tab n (pair_at (hex_of octets))) many
      ∙ tab-ext (length octets) (pair_at (hex_of octets)) (λ k. get_or octets k 0) octet-back
      ∙ tab-get_d octets 0

pub written-reads : WrittenReads
unfolding line_octets unless
written-reads octets small short =
    rw (
      le-ltb line_limit (length (hex_of octets)) (omega (arith, length-hex_of octets)),
      eq-eqb (length (hex_of octets) % 2) 0 (omega (arith, length-hex_of octets)),
      digits octets small,
    )
    (ap (λ (l : List ℕ). done l) (back octets small))
