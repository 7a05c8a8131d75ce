-- Upper-case digits, as the code tells them, and the run of them at the front of a text. Assumes nothing.
use Rattle.std.proofs.Common.{◌≡◌, ℕ, ◌+◌, ◌-◌, ◌%◌, ◌<◌, ◌≤◌, Bool, true, false, cond, not, ◌&&◌, ◌||◌, ltb, List, length, get_or, sym, refl, ◌∙◌, ap₂, ⊎_elim, arith}
use Rattle.octets.specs.Place.{all_below}
use Rattle.octets.proofs.Laws.{all_below-at, all_below-more, below_or_not}
use Rattle.line.specs.Hex.{digit_of, no_digit}
use Rattle.line.specs.FeedPromise.{looked_at}
use Rattle.image.specs.Parts.{upper_digit}
use Rattle.image_reader.specs.Text.{upper_at, UpperTo}

-- ---- one character: what is so of each of 256 octets is computed
agree : Bool → Bool → Bool
agree true b = b
agree false b = not b

agree_same : (a b : Bool) → agree a b ≡ true → a ≡ b
unfolding agree
agree_same true true e = refl
agree_same true false e = sym e
agree_same false true e = e
agree_same false false e = refl

abbrev tested : ℕ → Bool
tested c = ltb ((c + 208) % 256) 10 || ltb ((c + 191) % 256) 6

all_tested : all_below 256 (λ c. agree (tested c) (upper_digit c)) ≡ true
unfolding all_below agree
all_tested = refl

pub upper-told : {c d l : ℕ} → c < 256 → (d + 48) % 256 ≡ c → d < 256 → (l + 65) % 256 ≡ c → l < 256
    → (ltb d 10 || ltb l 6) ≡ upper_digit c
upper-told {c} {d} {l} octet wd sd wl sl =
    let d-is : d ≡ (c + 208) % 256 = omega arith in
    let l-is : l ≡ (c + 191) % 256 = omega arith in
    ap₂ (λ (x y : ℕ). ltb x 10 || ltb y 6) d-is l-is
    ∙ agree_same (tested c) (upper_digit c) (all_below-at 256 (λ c. agree (tested c) (upper_digit c)) all_tested c octet)

-- it is a digit of either case
abbrev digit_too : ℕ → Bool
digit_too c = cond (upper_digit c) (ltb (digit_of c) no_digit) true

all_digits : all_below 256 digit_too ≡ true
unfolding all_below digit_of
all_digits = refl

pub upper-digit : (c : ℕ) → c < 256 → upper_digit c ≡ true → ltb (digit_of c) no_digit ≡ true
upper-digit c octet e = rw e at (all_below-at 256 digit_too all_digits c octet)

-- ---- the next characters
pub record Near (s : List ℕ) (at : ℕ) (all : Bool) (j : ℕ) : Type 0 where
  pub so : all ≡ all_below j (upper_at s at)
  pub few : j ≤ looked_at

pub near-start : (s : List ℕ) (at : ℕ) → Near s at true 0
unfolding all_below
near-start s at = record { so = refl; few = omega arith }

pub near-turn : {s : List ℕ} {at : ℕ} {all one : Bool} {j : ℕ} → Near s at all j → j < looked_at → one ≡ upper_digit (get_or s (at + j) 0)
    → Near s at (all && one) (j + 1)
near-turn {s} {at} {all} {one} {j} n more e =
    record { so = ap₂ (λ (a b : Bool). a && b) n.so e ∙ sym (all_below-more j (upper_at s at)); few = omega arith }

-- ---- the run
pub upper-start : (s : List ℕ) → UpperTo s 0
upper-start s = record { digits = λ k below. absurd (omega arith); inside = omega arith }

far : (s : List ℕ) (at : ℕ) → all_below looked_at (upper_at s at) ≡ true → (k : ℕ) → k < at + looked_at → at ≤ k
    → upper_digit (get_or s k 0) ≡ true
far s at all k below past =
    let place : at + (k - at) ≡ k = omega arith in
    rw place at (all_below-at looked_at (upper_at s at) all (k - at) (omega arith))

pub upper-far : {s : List ℕ} {at : ℕ} {all : Bool} → UpperTo s at → looked_at ≤ length s - at → all ≡ all_below looked_at (upper_at s at)
    → all ≡ true → UpperTo s (at + looked_at)
upper-far {s} {at} {all} u room told so =
    record {
      digits = λ k below.
          ⊎_elim (λ before. u.digits k before) (λ past. far s at (sym told ∙ so) k below past) (below_or_not k at);
      inside = omega (arith, u.inside);
    }
