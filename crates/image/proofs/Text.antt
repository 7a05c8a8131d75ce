-- Lines of upper-case hexadecimal: octets as digits and back, and the line at the front of a text. A fact of one digit is computed.
-- Assumes nothing.
use Prim.Native.Nat.{ℕ, zero, suc, ◌+◌, ◌*◌, ◌/◌, ◌%◌, ◌<◌}
use mathlib.Core.Path.{◌≡◌, refl, sym, ap, ap₂, ◌∙◌}
use mathlib.Core.Bool.{Bool, true, false, not, cond, ◌&&◌, ◌||◌}
use mathlib.Core.List.{List, [], ◌∷◌, ◌++◌}
use mathlib.Core.Logic.{◌⊎◌, inl, inr, ⊎_elim}
use lib.ListN.{length, get_or, take, length-append}
use lib.Dec.{ltb, eqb}
use native.Mathlib.Omega.{arith}
use borrow.Author.Tests.{eq-eqb, eqb-true, ltb-true}
use Rattle.octets.specs.Place.{tab, all_below}
use Rattle.octets.proofs.Laws.{tab-ext, all_below-at, all_below-of, and_left, and_right, and_both}
use Rattle.length.specs.Length.{within}
use Rattle.length.specs.Claims.{Octets}
use Rattle.length.proofs.Laws.{within-true, octets-cons, octets-none}
use Rattle.line.specs.Hex.{digit_of, digit_for, pair_at, octets_in, hex_of}
use Rattle.line.specs.Lines.{line_feed, line_of}
use Rattle.line.proofs.Laws.{length-hex_of}
use Rattle.image.specs.Parts.{line_at, upper_digit, upper_pairs}

-- ---- one digit
either : (a b : Bool) → (a || b) ≡ true → (a ≡ true) ⊎ (b ≡ true)
either true b e = inl refl
either false b e = inr e

-- an upper-case digit has a value below 16, and is the digit of that value
abbrev digit_back : ℕ → Bool
digit_back c = not (upper_digit c) || (eqb (digit_for (digit_of c)) c && ltb (digit_of c) 16)

all_upper : all_below 0x47 digit_back ≡ true
unfolding all_below digit_of digit_for
all_upper = refl

upper-small : (c : ℕ) → upper_digit c ≡ true → c < 0x47
upper-small c e =
    ⊎_elim (λ number. omega (arith, (within-true 0x30 0x39 c number).1)) (λ letter. omega (arith, (within-true 0x41 0x46 c letter).1))
    (either (within 0x30 0x39 c) (within 0x41 0x46 c) e)

digit-back : (c : ℕ) → upper_digit c ≡ true → (digit_for (digit_of c) ≡ c) × (digit_of c < 16)
digit-back c e =
    let both : (eqb (digit_for (digit_of c)) c && ltb (digit_of c) 16) ≡ true
    = rw e at (all_below-at 0x47 digit_back all_upper c (upper-small c e)) in (
      eqb-true (digit_for (digit_of c)) c (and_left (eqb (digit_for (digit_of c)) c) (ltb (digit_of c) 16) both),
      ltb-true (digit_of c) 16 (and_right (eqb (digit_for (digit_of c)) c) (ltb (digit_of c) 16) both),
    )

-- the digit of a value below 16 is an upper-case one, has that value, and is no line feed
abbrev digit_written : ℕ → Bool
digit_written n = (upper_digit (digit_for n) && eqb (digit_of (digit_for n)) n) && not (eqb (digit_for n) line_feed)

all-written : all_below 16 digit_written ≡ true
unfolding all_below digit_of digit_for
all-written = refl

pub record DigitWritten (n : ℕ) : Type 0 where
  pub upper : upper_digit (digit_for n) ≡ true
  pub value : digit_of (digit_for n) ≡ n
  pub plain : eqb (digit_for n) line_feed ≡ false

not-true : (b : Bool) → not b ≡ true → b ≡ false
not-true true e = sym e
not-true false e = refl

digit-written : (n : ℕ) → n < 16 → DigitWritten n
digit-written n small =
    let all = all_below-at 16 digit_written all-written n small in
    let two = and_left (upper_digit (digit_for n) && eqb (digit_of (digit_for n)) n) (not (eqb (digit_for n) line_feed)) all in
    record {
      upper = and_left (upper_digit (digit_for n)) (eqb (digit_of (digit_for n)) n) two;
      value = eqb-true (digit_of (digit_for n)) n (and_right (upper_digit (digit_for n)) (eqb (digit_of (digit_for n)) n) two);
      plain =
          not-true (eqb (digit_for n) line_feed)
          (and_right (upper_digit (digit_for n) && eqb (digit_of (digit_for n)) n) (not (eqb (digit_for n) line_feed)) all);
    }

-- the two digits of an octet
module _ (o : ℕ) (small : o < 256) where
  high : DigitWritten (o / 16)
  high = digit-written (o / 16) (omega arith)

  low : DigitWritten (o % 16)
  low = digit-written (o % 16) (omega arith)

-- ---- a pair more
octets_in-pair : (c d : ℕ) (line : List ℕ) → octets_in (c ∷ d ∷ line) ≡ (digit_of c * 16 + digit_of d) ∷ octets_in line
unfolding octets_in tab
octets_in-pair c d line =
    let many : length (c ∷ d ∷ line) / 2 ≡ suc (length line / 2) = omega arith in
    ap (λ (n : ℕ). tab n (pair_at (c ∷ d ∷ line))) many
    ∙ ap (λ (l : List ℕ). (digit_of c * 16 + digit_of d) ∷ l)
    (tab-ext (length line / 2) (λ k. pair_at (c ∷ d ∷ line) (suc k)) (pair_at line) (λ k below. on k)) where
      on : (k : ℕ) → pair_at (c ∷ d ∷ line) (suc k) ≡ pair_at line k
      on k =
          let first : 2 * suc k ≡ suc (suc (2 * k)) = omega arith in
          let second : 2 * suc k + 1 ≡ suc (suc (2 * k + 1)) = omega arith in
          ap₂ (λ (i j : ℕ). digit_of (get_or (c ∷ d ∷ line) i 0) * 16 + digit_of (get_or (c ∷ d ∷ line) j 0)) first second

-- ---- digits, and back
-- pairs of upper-case digits
pub record Pairs (line : List ℕ) : Type 0 where
  pub even : length line % 2 ≡ 0
  pub upper : (k : ℕ) → k < length line → upper_digit (get_or line k 0) ≡ true

pub pairs_of : (line : List ℕ) → upper_pairs line ≡ true → Pairs line
unfolding upper_pairs
pairs_of line e =
    record {
      even = eqb-true (length line % 2) 0 (and_left (eqb (length line % 2) 0) _ e);
      upper = all_below-at (length line) (λ k. upper_digit (get_or line k 0)) (and_right (eqb (length line % 2) 0) _ e);
    }

pairs-true : (line : List ℕ) → Pairs line → upper_pairs line ≡ true
unfolding upper_pairs
pairs-true line x =
    and_both (eq-eqb (length line % 2) 0 x.even) (all_below-of (length line) (λ k. upper_digit (get_or line k 0)) x.upper)

pairs-rest : (c d : ℕ) (line : List ℕ) → Pairs (c ∷ d ∷ line) → Pairs line
pairs-rest c d line x = record { even = omega (arith, x.even); upper = λ k below. x.upper (suc (suc k)) (omega arith) }

-- a line of such pairs is what is written of its octets
pub hex-back : (line : List ℕ) → Pairs line → hex_of (octets_in line) ≡ line
unfolding hex_of octets_in tab
hex-back [] x = refl
hex-back (c ∷ []) x = let odd = x.even in absurd (omega arith)
hex-back (c ∷ d ∷ line) x =
    let first = digit-back c (x.upper 0 (omega arith)) in
    let second = digit-back d (x.upper 1 (omega arith)) in
    let above : (digit_of c * 16 + digit_of d) / 16 ≡ digit_of c = omega (arith, first.1, second.1) in
    let below : (digit_of c * 16 + digit_of d) % 16 ≡ digit_of d = omega (arith, first.1, second.1) in
    ap hex_of (octets_in-pair c d line)
    ∙ ap₂ (λ (a b : ℕ). a ∷ b ∷ hex_of (octets_in line)) (ap digit_for above ∙ first.0) (ap digit_for below ∙ second.0)
    ∙ ap (λ (l : List ℕ). c ∷ d ∷ l) (hex-back line (pairs-rest c d line x))

pub octets-small : (line : List ℕ) → Pairs line → Octets (octets_in line)
unfolding octets_in tab
octets-small [] x = octets-none
octets-small (c ∷ []) x = let odd = x.even in absurd (omega arith)
octets-small (c ∷ d ∷ line) x =
    let first = digit-back c (x.upper 0 (omega arith)) in
    let second = digit-back d (x.upper 1 (omega arith)) in
    rw (octets_in-pair c d line)
    (octets-cons (digit_of c * 16 + digit_of d) (octets_in line) (omega (arith, first.1, second.1))
    (octets-small line (pairs-rest c d line x)))

-- octets as digits: they read back, in upper-case pairs
pub octets-back : (octets : List ℕ) → Octets octets → octets_in (hex_of octets) ≡ octets
unfolding hex_of octets_in tab
octets-back [] small = refl
octets-back (o ∷ octets) small =
    let first = (high o (small 0)).value in
    let second = (low o (small 0)).value in
    octets_in-pair (digit_for (o / 16)) (digit_for (o % 16)) (hex_of octets)
    ∙ ap₂ (λ (a : ℕ) (l : List ℕ). a ∷ l) (omega (arith, first, second)) (octets-back octets (λ i. small (suc i)))

hex-upper : (octets : List ℕ) → Octets octets → (k : ℕ) → k < length (hex_of octets) → upper_digit (get_or (hex_of octets) k 0) ≡ true
unfolding hex_of
hex-upper [] small k below = absurd (omega arith)
hex-upper (o ∷ octets) small zero below = (high o (small 0)).upper
hex-upper (o ∷ octets) small (suc zero) below = (low o (small 0)).upper
hex-upper (o ∷ octets) small (suc (suc k)) below = hex-upper octets (λ i. small (suc i)) k (omega arith)

pub hex-pairs : (octets : List ℕ) → Octets octets → upper_pairs (hex_of octets) ≡ true
hex-pairs octets small =
    pairs-true (hex_of octets) (record { even = omega (arith, length-hex_of octets); upper = hex-upper octets small })

-- ---- the line at the front
pub hex-line : (octets rest : List ℕ) → Octets octets → line_at (hex_of octets ++ (line_feed ∷ rest)) ≡ hex_of octets
unfolding hex_of line_at
hex-line [] rest small = refl
hex-line (o ∷ octets) rest small =
    rw ((high o (small 0)).plain, (low o (small 0)).plain, hex-line octets rest (λ i. small (suc i)))

-- a line that a line feed ends
pub line-ended : (text : List ℕ) → length (line_at text) < length text
    → take (length (line_at text) + 1) text ≡ line_at text ++ (line_feed ∷ [])
unfolding line_at
line-ended [] short = absurd (omega arith)
line-ended (c ∷ text) short = by (eqb c line_feed) refl short (λ less. line-ended text less) where
  by : (b : Bool) → eqb c line_feed ≡ b → length (cond b [] (c ∷ line_at text)) < suc (length text)
      → (length (line_at text) < length text → take (length (line_at text) + 1) text ≡ line_at text ++ (line_feed ∷ []))
      → take (length (cond b [] (c ∷ line_at text)) + 1) (c ∷ text) ≡ cond b [] (c ∷ line_at text) ++ (line_feed ∷ [])
  by true was short more = ap (λ (x : ℕ). x ∷ []) (eqb-true c line_feed was)
  by false was short more =
      let on : suc (length (line_at text)) + 1 ≡ suc (length (line_at text) + 1) = omega arith in
      ap (λ (n : ℕ). take n (c ∷ text)) on ∙ ap (λ (l : List ℕ). c ∷ l) (more (omega arith))

-- a line is of octets
pub line_small : (octets : List ℕ) → Octets octets → Octets (line_of octets)
unfolding hex_of
line_small [] small = octets-cons line_feed [] (omega arith) octets-none
line_small (o ∷ octets) small =
    octets-cons (digit_for (o / 16)) (digit_for (o % 16) ∷ line_of octets)
    (omega (arith, upper-small (digit_for (o / 16)) (high o (small 0)).upper))
    (octets-cons (digit_for (o % 16)) (line_of octets) (omega (arith, upper-small (digit_for (o % 16)) (low o (small 0)).upper))
    (line_small octets (λ i. small (suc i))))

pub length-line : (octets : List ℕ) → length (line_of octets) ≡ 2 * length octets + 1
length-line octets = omega (arith, length-append (hex_of octets) (line_feed ∷ []), length-hex_of octets)
