-- The parts of an image, each as a format: numbers in whole octets, high first, packets and messages with their lengths, and lines of
-- upper-case hexadecimal (rules 20.1, 20.2, 20.6, 20.14 and 20.15). Whatever is wrong with a part is 20, and it has no place (rules 2.20,
-- 20.13 and 20.27). Definitions only.
use Rattle.std.specs.Prelude.{ℕ, zero, suc, ◌+◌, ◌*◌, ◌/◌, ◌%◌, ◌^◌, ◌≤◌, ◌<◌, Bool, cond, ◌&&◌, ◌||◌, List, [], ◌∷◌, ◌++◌, length, get_or, leb, ltb, eqb}
use Rattle.octets.specs.Place.{all_below}
use Rattle.length.specs.Refusals.{refusal, bad_image}
use Rattle.length.specs.Answers.{Answer, done, refused, refuse}
use Rattle.length.specs.Length.{within, length_limit}
use Rattle.length.specs.Claims.{Octets}
use Rattle.format.specs.Spelling.{in_octets}
use Rattle.format.specs.Reading.{Finding, found, stopped}
use Rattle.format.specs.Format.{Format, octetwise, guarded}
use Rattle.datagram.specs.Read.{after, octets_of, item_at}
use Rattle.datagram.specs.Write.{item_octets}
use Rattle.datagram.specs.declared.reader.Part.{Part}
use Rattle.line.specs.Hex.{octets_in}
use Rattle.line.specs.Lines.{line_feed, line_of}

-- ---- what is written of a value, and what octets read as if the value ends where they end
module _ {A : Type 0} where
  abbrev pub octets_for : Format A → A → List ℕ
  octets_for f a = in_octets (f.spelling a 0)

  abbrev pub up_to : ℕ → Finding A → Answer A
  up_to size (found a p) = cond (eqb p (8 * size)) (done a) (refuse bad_image)
  up_to size (stopped why) = refuse bad_image

  unfoldable pub read_whole : Format A → List ℕ → Answer A
  read_whole f s = up_to (length s) (f.read s 0 0)

  -- what was read of some octets, and how many they are
  abbrev pub taking : ℕ → Answer A → Finding A
  taking n (done a) = found a n
  taking n (refused why) = stopped why

-- ---- numbers
-- the number in the first k octets, the high one first
unfoldable pub high_first : ℕ → List ℕ → ℕ
high_first zero s = 0
high_first (suc k) s = high_first k s * 256 + get_or s k 0

-- a number in k octets
unfoldable pub high_first_octets : ℕ → ℕ → List ℕ
high_first_octets zero v = []
high_first_octets (suc k) v = high_first_octets k (v / 256) ++ (v % 256 ∷ [])

unfoldable pub number_front : ℕ → List ℕ → Finding ℕ
number_front k s = cond (ltb (length s) k) (stopped (refusal bad_image)) (found (high_first k s) k)

abbrev pub number : ℕ → Format ℕ
number k = octetwise (number_front k) (high_first_octets k) (λ v. v < 256 ^ k)

-- one octet, at most `most`
abbrev pub octet_to : ℕ → Format ℕ
octet_to most = guarded bad_image (λ v. leb v most) (number 1)

-- this octet alone
abbrev pub octet_is : ℕ → Format ℕ
octet_is octet = guarded bad_image (λ v. eqb v octet) (number 1)

-- ---- packets and messages
-- rule 20.6: a length by the length rule, 0 allowed, and that many octets
abbrev pub part_taken : List ℕ → Answer Part → Finding (List ℕ)
part_taken s (done p) = found (octets_of s p) (after p)
part_taken s (refused why) = stopped why

unfoldable pub item_front : ℕ → List ℕ → Finding (List ℕ)
item_front limit s = part_taken s (item_at 0 limit s 0)

-- octets within the limit, whose length has a form
pub record Sendable (limit : ℕ) (item_to : List ℕ) : Type 0 where
  pub short : length item_to ≤ limit
  pub form : length item_to ≤ length_limit
  pub octets : Octets item_to

abbrev pub item_to : ℕ → Format (List ℕ)
item_to limit = octetwise (item_front limit) item_octets (Sendable limit)

-- ---- lines
-- the characters before the first line feed
unfoldable pub line_at : List ℕ → List ℕ
line_at [] = []
line_at (c ∷ text) = cond (eqb c line_feed) [] (c ∷ line_at text)

-- `0` to `9`, `A` to `F`
abbrev pub upper_digit : ℕ → Bool
upper_digit c = within 0x30 0x39 c || within 0x41 0x46 c

-- upper-case hexadecimal digits, in pairs
unfoldable pub upper_pairs : List ℕ → Bool
upper_pairs line = eqb (length line % 2) 0 && all_below (length line) (λ k. upper_digit (get_or line k 0))

module _ {A : Type 0} where
  -- what a line reads as, by the format of its octets
  unfoldable pub read_line : Format A → List ℕ → Answer A
  read_line f line = cond (upper_pairs line) (read_whole f (octets_in line)) (refuse bad_image)

  -- the line at the front of a text, which a line feed must end
  unfoldable pub line_front : Format A → List ℕ → Finding A
  line_front f text =
      cond (ltb (length (line_at text)) (length text)) (taking (length (line_at text) + 1) (read_line f (line_at text)))
      (stopped (refusal bad_image))

  -- a line of hexadecimal, by the format of its octets
  abbrev pub line : Format A → Format A
  line f = octetwise (line_front f) (λ a. line_of (octets_for f a)) (λ a. f.fits a 0)
