-- Lines of hexadecimal. Digits of both cases are read and upper case is written (rule 18.7). A line of over 4,800 characters is 2, then one
-- that is not made of paired digits is 15 (rules 18.10 and 18.11). A line's characters are octets (rule 18.9). Definitions only.
use Rattle.std.specs.Prelude.{ℕ, ◌+◌, ◌-◌, ◌*◌, ◌/◌, ◌%◌, Bool, cond, not, ◌&&◌, List, [], ◌∷◌, length, get_or, ltb, eqb}
use Rattle.std.proofs.Math.Option.{Option}
use Rattle.length.specs.Refusals.{too_long, wrong_settings}
use Rattle.length.specs.Answers.{Answer}
use Rattle.length.specs.Tables.{when, unless}
use Rattle.length.specs.Length.{within}
use Rattle.length.specs.declared.Reason.{Reason}
use Rattle.octets.specs.Place.{tab, all_below}
use Rattle.datagram.specs.Sizes.{datagram_limit}

-- rule 1.11: the most characters of a line, two for each octet of the longest datagram
abbrev pub line_limit : ℕ
line_limit = 2 * datagram_limit

-- ---- reading

-- the value of a character that is no digit
abbrev pub no_digit : ℕ
no_digit = 16

-- the value of a digit: `0` to `9`, `A` to `F`, `a` to `f`
unfoldable pub digit_of : ℕ → ℕ
digit_of c =
    cond (within 0x30 0x39 c) (c - 0x30)
    (cond (within 0x41 0x46 c) (c - 0x41 + 10)
    (cond (within 0x61 0x66 c) (c - 0x61 + 10)
    no_digit))

-- every character is a digit
unfoldable pub all_digits : List ℕ → Bool
all_digits line = all_below (length line) (λ k. ltb (digit_of (get_or line k 0)) no_digit)

-- octet k is in the digits 2k and 2k + 1, the high one first (rule 18.15)
abbrev pub pair_at : List ℕ → ℕ → ℕ
pair_at line k = digit_of (get_or line (2 * k) 0) * 16 + digit_of (get_or line (2 * k + 1) 0)

unfoldable pub octets_in : List ℕ → List ℕ
octets_in line = tab (length line / 2) (pair_at line)

-- hexadecimal digits, in pairs
abbrev pub paired : List ℕ → Bool
paired line = eqb (length line % 2) 0 && all_digits line

-- rules 2.2, 2.15, 18.10 and 18.11: 2 for a line over the limit, before 15 for one that is not made of paired digits
abbrev pub line_rows : List ℕ → List (Option Reason)
line_rows line = when (ltb line_limit (length line)) too_long ∷ when (not (paired line)) wrong_settings ∷ []

-- the octets of a line
unfoldable pub line_octets : List ℕ → Answer (List ℕ)
line_octets line = unless (line_rows line) (octets_in line)

-- ---- writing

-- a digit below 16, in upper case
unfoldable pub digit_for : ℕ → ℕ
digit_for n = cond (ltb n 10) (0x30 + n) (0x41 + (n - 10))

-- two digits for each octet, the high one first (rule 18.15)
unfoldable pub hex_of : List ℕ → List ℕ
hex_of [] = []
hex_of (octet ∷ octets) = digit_for (octet / 16) ∷ digit_for (octet % 16) ∷ hex_of octets
