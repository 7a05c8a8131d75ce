-- The number of a line's datagram stands in its first four digits: so a line that has fewer, or others, is not dropped. Assumes
-- nothing.
use Prim.Native.Nat.{ℕ, ◌+◌, ◌*◌, ◌/◌, ◌%◌, ◌≤◌, ◌<◌}
use mathlib.Core.Path.{◌≡◌, refl, sym, ap, ap₂, ◌∙◌}
use mathlib.Core.Bool.{Bool, true, false, not, ◌&&◌}
use mathlib.Core.List.{List, [], ◌∷◌}
use lib.ListN.{length, get_or, take}
use lib.Seq.{length-take-le, get_or-take}
use lib.Dec.{ltb, eqb}
use native.Mathlib.Omega.{arith}
use borrow.Author.Tests.{not-false}
use Rattle.octets.specs.Place.{tab, all_below}
use Rattle.octets.proofs.Laws.{and_right, all_below-at, all_below-of, tab-at}
use Rattle.length.specs.Refusals.{too_long, wrong_settings}
use Rattle.length.specs.Answers.{Answer, done, refused}
use Rattle.length.specs.Tables.{when, unless}
use Rattle.length.proofs.Laws.{bind_done, done-same, unless-past, unless-done}
use Rattle.datagram.specs.Read.{read_datagram}
use Rattle.datagram.proofs.Laws.{read_done}
use Rattle.line.specs.Hex.{line_limit, digit_of, no_digit, paired, line_rows, octets_in, line_octets, all_digits, pair_at}
use Rattle.line.proofs.Laws.{length-octets_in}
use Rattle.trace_replay.specs.Replay.{number_in, listed, dropped}
use Rattle.trace_replay.proofs.Dropping.{not-dropped}

-- a line with a number: its octets, of which there are two at least, and the number in them
pub record Numbered (line : List ℕ) (number : ℕ) : Type 0 where
  pub octets : List ℕ
  pub line_read : line_octets line ≡ done octets
  pub two : 2 ≤ length octets
  pub high-first : number ≡ get_or octets 0 0 * 256 + get_or octets 1 0

pub number-done : (line : List ℕ) (number : ℕ) → number_in line ≡ done number → Numbered line number
unfolding number_in
number-done line number e =
    let octets = bind_done (line_octets line) _ number e in
    let datagram = bind_done (read_datagram octets.0) _ number octets.2 in
    let so = read_done octets.0 datagram.0 datagram.1 in
    record {
      octets = octets.0;
      line_read = octets.1;
      two = so.two;
      high-first = sym (done-same datagram.2) ∙ so.number;
    }

-- ---- the octets of a line, and of its front
-- a line that has octets is of digits
digits-done : (line octets : List ℕ) → line_octets line ≡ done octets → all_digits line ≡ true
unfolding line_octets
digits-done line octets e =
    let short = unless-past (ltb line_limit (length line)) too_long (when (not (paired line)) wrong_settings ∷ []) (octets_in line) octets e in
    let even = unless-past (not (paired line)) wrong_settings [] (octets_in line) octets short.1 in
    and_right (eqb (length line % 2) 0) (all_digits line) (not-false (paired line) even.0)

octets-done : (line octets : List ℕ) → line_octets line ≡ done octets → octets ≡ octets_in line
unfolding line_octets
octets-done line octets e = unless-done (line_rows line) (octets_in line) octets e

module _ (line : List ℕ) (n : ℕ) (long : 2 * n ≤ length line) where
  front-digits : all_digits line ≡ true → all_digits (take (2 * n) line) ≡ true
  unfolding all_digits
  front-digits all =
      let size = length-take-le (2 * n) line long in
      all_below-of (length (take (2 * n) line)) (λ k. ltb (digit_of (get_or (take (2 * n) line) k 0)) no_digit)
      (λ k below.
      let inside : k < 2 * n = omega (arith, size) in
      ap (λ (c : ℕ). ltb (digit_of c) no_digit) (get_or-take (2 * n) line k 0 inside)
      ∙ all_below-at (length line) (λ j. ltb (digit_of (get_or line j 0)) no_digit) all k (omega arith))

  front-octet : (k : ℕ) → k < n → get_or (octets_in (take (2 * n) line)) k 0 ≡ get_or (octets_in line) k 0
  unfolding octets_in
  front-octet k below =
      let size = length-take-le (2 * n) line long in
      let front = take (2 * n) line in
      tab-at (length front / 2) (pair_at front) k 0 (omega arith)
      ∙ ap₂ (λ (a b : ℕ). digit_of a * 16 + digit_of b) (get_or-take (2 * n) line (2 * k) 0 (omega arith))
      (get_or-take (2 * n) line (2 * k + 1) 0 (omega arith))
      ∙ sym (tab-at (length line / 2) (pair_at line) k 0 (omega arith))

-- ---- so the number stands in the first four digits
pub record Fronted (line : List ℕ) (number : ℕ) : Type 0 where
  pub long : 4 ≤ length line
  pub digits : all_digits (take 4 line) ≡ true
  pub high-first : number ≡ get_or (octets_in (take 4 line)) 0 0 * 256 + get_or (octets_in (take 4 line)) 1 0

pub fronted : (line : List ℕ) (number : ℕ) → number_in line ≡ done number → Fronted line number
fronted line number e =
    let so = number-done line number e in
    let is : so.octets ≡ octets_in line = octets-done line so.octets so.line_read in
    let long : 2 * 2 ≤ length line = omega (arith, so.two, ap length is, length-octets_in line) in
    record {
      long = long;
      digits = front-digits line 2 long (digits-done line so.octets so.line_read);
      high-first =
          so.high-first
          ∙ ap (λ (o : List ℕ). get_or o 0 0 * 256 + get_or o 1 0) is
          ∙ sym (ap₂ (λ (a b : ℕ). a * 256 + b) (front-octet line 2 long 0 (omega arith)) (front-octet line 2 long 1 (omega arith)));
    }

-- a line that has fewer is not dropped
pub short-left : (numbers line : List ℕ) → length line < 4 → dropped numbers line ≡ false
short-left numbers line short = not-dropped numbers line (λ number e. absurd (omega (arith, (fronted line number e).long)))
