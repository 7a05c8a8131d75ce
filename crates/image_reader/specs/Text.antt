-- What the functions promise that take a line of an image from a text (rules 20.1 and 20.14). Definitions only.
use Rattle.std.specs.Prelude.{◌≡◌, ℕ, ◌+◌, ◌<◌, ◌≤◌, Bool, true, false, List, ◌++◌, Option, Some, None, length, drop, slice_index}
use Rattle.line.specs.Hex.{octets_in}
use Rattle.image.specs.Parts.{line_at, upper_digit, upper_pairs}
use Rattle.image.specs.Image.{names_edition, edition_named}

-- the character at distance j from a place is an upper-case digit
abbrev pub upper_at : List ℕ → ℕ → ℕ → Bool
upper_at s at j = upper_digit (slice_index s (at + j))

-- all characters before a place are upper-case digits
pub record UpperTo (s : List ℕ) (at : ℕ) : Type 0 where
  pub digits : (k : ℕ) → k < at → upper_digit (slice_index s k) ≡ true
  pub inside : at ≤ length s

-- and the next is none, so these are all at the front
pub record UpperRun (s : List ℕ) (at : ℕ) : Type 0 where
  pub to : UpperTo s at
  pub end : at < length s → upper_digit (slice_index s at) ≡ false

-- the line at the front of a text: a line feed ends it, it consists of pairs of upper-case digits, and its octets are at the front of the
-- buffer
pub record LineOctets (text old new : List ℕ) (count next : ℕ) : Type 0 where
  pub ended : length (line_at text) < length text
  pub pairs : upper_pairs (line_at text) ≡ true
  pub counted : count ≡ length (octets_in (line_at text))
  pub after : next ≡ length (line_at text) + 1
  pub fits : count ≤ length old
  pub lent : new ≡ octets_in (line_at text) ++ drop (length (octets_in (line_at text))) old

-- no such line of at most `room` octets
abbrev pub NoLine : List ℕ → ℕ → Type 0
NoLine text room =
    length (line_at text) < length text → upper_pairs (line_at text) ≡ true → length (octets_in (line_at text)) ≤ room → ⊥

abbrev pub TakenCase : List ℕ → List ℕ → List ℕ → Option (ℕ × ℕ) → Type 0
TakenCase text old new (Some x) = LineOctets text old new x.0 x.1
TakenCase text old new None = NoLine text (length old)

pub record LineTaken (text old new : List ℕ) (r : Option (ℕ × ℕ)) : Type 0 where
  pub answer : TakenCase text old new r

-- ---- the version that a text names (rule 20.12)
abbrev pub NamedCase : List ℕ → Option ℕ → Type 0
NamedCase text (Some octet) = (names_edition text ≡ true) × (edition_named text ≡ octet)
NamedCase text None = names_edition text ≡ false

pub record EditionTold (text : List ℕ) (r : Option ℕ) : Type 0 where
  pub told : NamedCase text r
