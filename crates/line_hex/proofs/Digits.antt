-- Hexadecimal digits, as the code tells them. Assumes nothing.
use Rattle.std.proofs.Common.{◌≡◌, ℕ, ◌+◌, ◌-◌, ◌*◌, ◌/◌, ◌%◌, ◌<◌, ◌≤◌, Bool, true, false, cond, not, ◌||◌, eqb, ltb, sym, refl, ◌∙◌, ap₂, arith, le-ltb, lt-ltb, eqb-true}
use lib.Bits.{bit_or}
use Rattle.octets.specs.Place.{all_below}
use Rattle.octets.proofs.Laws.{all_below-at}
use Rattle.line.specs.Hex.{digit_of, digit_for, no_digit}

-- ---- read: what is so of each of 256 octets is computed
agree : Bool → Bool → Bool
agree true b = b
agree false b = not b

agree_same : (a b : Bool) → agree a b ≡ true → a ≡ b
unfolding agree
agree_same true true e = refl
agree_same true false e = sym e
agree_same false true e = e
agree_same false false e = refl

abbrev tested : ℕ → Bool
tested c = ltb ((c + 208) % 256) 10 || ltb ((bit_or c 32 + 159) % 256) 6

all_tested : all_below 256 (λ c. agree (tested c) (ltb (digit_of c) no_digit)) ≡ true
unfolding all_below digit_of agree
all_tested = refl

-- the test of a character
pub digit-told : {c : ℕ} → c < 256 → tested c ≡ ltb (digit_of c) no_digit
digit-told {c} octet =
    agree_same (tested c) (ltb (digit_of c) no_digit) (all_below-at 256 (λ c. agree (tested c) (ltb (digit_of c) no_digit)) all_tested c octet)

abbrev halves : ℕ → Bool
halves c = cond (ltb (digit_of c) no_digit) (eqb (c % 16 + 9 * (c / 64)) (digit_of c)) true

all-halves : all_below 256 halves ≡ true
unfolding all_below digit_of
all-halves = refl

-- the value of a digit
pub digit_value : {c : ℕ} → c < 256 → digit_of c < no_digit → c % 16 + 9 * (c / 64) ≡ digit_of c
digit_value {c} octet small =
    eqb-true (c % 16 + 9 * (c / 64)) (digit_of c) (rw (lt-ltb (digit_of c) no_digit small) at (all_below-at 256 halves all-halves c octet))

-- ---- written
pub digit_for-low : {n : ℕ} → n < 10 → 48 + n ≡ digit_for n
unfolding digit_for
digit_for-low {n} low = rw (lt-ltb n 10 low)

pub digit_for-high : {n : ℕ} → 10 ≤ n → 65 + (n - 10) ≡ digit_for n
unfolding digit_for
digit_for-high {n} high = rw (le-ltb n 10 high)
