-- How many octets a line holds, and that they are octets; and how many digits some octets take. Assumes nothing.
use Prim.Native.Nat.{ℕ, ◌+◌, ◌*◌, ◌/◌, ◌%◌, ◌≤◌, ◌<◌}
use mathlib.Core.Path.{◌≡◌, refl}
use mathlib.Core.Bool.{Bool, true, false, true≢false, not}
use mathlib.Core.List.{List, [], ◌∷◌}
use mathlib.Core.Logic.{⊎_elim}
use lib.ListN.{length, get_or, get_or-eq_default}
use lib.Dec.{ltb, eqb}
use native.Mathlib.Omega.{arith}
use borrow.Author.Tests.{ltb-true}
use Rattle.octets.proofs.Laws.{below_or_not, and_right, all_below-at, length-tab, tab-at}
use Rattle.length.specs.Refusals.{too_long, wrong_settings}
use Rattle.length.specs.Answers.{done}
use Rattle.length.specs.Claims.{Octets}
use Rattle.length.specs.Tables.{when}
use Rattle.length.proofs.Laws.{unless-done, unless-past}
use Rattle.line.specs.Hex.{line_limit, no_digit, digit_of, all_digits, paired, octets_in, line_octets, hex_of, pair_at}

pub length-octets_in : (line : List ℕ) → length (octets_in line) ≡ length line / 2
unfolding octets_in
length-octets_in line = length-tab (length line / 2) (pair_at line)

-- what a line of paired digits holds are octets
module _ (line : List ℕ) (digits : all_digits line ≡ true) where
  digit-small : (k : ℕ) → k < length line → digit_of (get_or line k 0) < no_digit
  unfolding all_digits
  digit-small k inside =
      ltb-true (digit_of (get_or line k 0)) no_digit (all_below-at (length line) (λ j. ltb (digit_of (get_or line j 0)) no_digit) digits k inside)

  octet-small : Octets (octets_in line)
  unfolding octets_in
  octet-small i =
      ⊎_elim
      (λ below.
      omega (
        arith,
        tab-at (length line / 2) (pair_at line) i 0 below,
        digit-small (2 * i) (omega arith),
        digit-small (2 * i + 1) (omega arith),
      ))
      (λ past.
      let out : length (octets_in line) ≤ i = omega (arith, length-octets_in line) in
      omega (arith, get_or-eq_default (octets_in line) 0 out))
      (below_or_not i (length line / 2))

not-not : (b : Bool) → not b ≡ false → b ≡ true
not-not true e = refl
not-not false e = absurd (true≢false e)

pub line-octets : (line octets : List ℕ) → line_octets line ≡ done octets → Octets octets
unfolding line_octets
line-octets line octets e =
    let short = unless-past (ltb line_limit (length line)) too_long (when (not (paired line)) wrong_settings ∷ []) (octets_in line) octets e in
    let pairs = unless-past (not (paired line)) wrong_settings [] (octets_in line) octets short.1 in
    let digits = and_right (eqb (length line % 2) 0) (all_digits line) (not-not (paired line) pairs.0) in
    rw (unless-done [] (octets_in line) octets pairs.1) (octet-small line digits)

pub length-hex_of : (a : List ℕ) → length (hex_of a) ≡ 2 * length a
unfolding hex_of
length-hex_of [] = refl
length-hex_of (x ∷ a) = omega (arith, length-hex_of a)
