-- Single lines of an image, at a limit or where rules 20.1 to 20.18 are easily misread. Each case says what is written, or what a line or a
-- text reads as. Definitions only.
use Rattle.std.specs.Prelude.{ℕ, ◌+◌, ◌/◌, ◌%◌, ◌≡◌, true, false, replicate}
use mathlib.Core.List.{List, [], ◌∷◌, ◌++◌, map, flatten}
use Rattle.length.specs.Refusals.{refusal, numbered}
use Rattle.length.specs.Answers.{Answer, done, refuse}
use Rattle.format.specs.Reading.{stopped}
use Rattle.format.specs.Format.{sequence_of}
use Rattle.session.specs.Cells.{State, unknown, received, spare, repaired, blank, unknown_cell}
use Rattle.session.specs.Held.{nothing_held}
use Rattle.session.specs.View.{View, fresh_view}
use Rattle.session_held.specs.Table.{Lent, lent}
use Rattle.line.specs.Hex.{hex_of}
use Rattle.line.specs.Text.{characters}
use Rattle.image.specs.Parts.{octets_for, read_whole, octet_to, line, line_front, read_line}
use Rattle.image.specs.Layout.{image_version01, image_version02, FirstImageLine, first_image_line, first_of, Number, number_line}
use Rattle.image.specs.Layout.{before, ahead, version_written}
use Rattle.image.specs.Image.{image_text, read_text, names_edition, edition_named, in_ranges_only, image_to_write}
use Rattle.image.specs.Image.{number_size, image_size, number_line_limit, image_limit}

-- a first line, and lines from the base on and before it
abbrev pub counted_first : FirstImageLine
counted_first = record { base = 0x0102; counts = record { received = 1; spare = 2; repaired = 3; lost = 0x04050607 } }

abbrev pub full : Number
full =
    record {
      cell = record { state = spare; octets = 0xAA ∷ 0xBB ∷ []; note = 0x0102 };
      held = record { accepted = true; n = 2; messages = (0xCC ∷ []) ∷ [] ∷ [] };
    }

abbrev pub sixteen : Number
sixteen =
    record {
      cell = record { state = spare; octets = 0x01 ∷ 0x23 ∷ 0x45 ∷ 0x67 ∷ 0x89 ∷ 0xAB ∷ 0xCD ∷ 0xEF ∷ []; note = 0x0102 };
      held = record { accepted = true; n = 0; messages = [] };
    }

abbrev pub bare : Number
bare = record { cell = unknown_cell; held = nothing_held }

-- received, with these messages over n packets each
abbrev pub with_messages : ℕ → List (List ℕ) → Number
with_messages n messages =
    record {
      cell = record { state = received; octets = 0xAA ∷ []; note = 0 };
      held = record { accepted = true; n = n; messages = messages };
    }

-- a line before the base, with a packet of `size` octets, from 128 on
abbrev pub with_packet : ℕ → List ℕ
with_packet size = hex_of (0x03 ∷ 0x00 ∷ 0x00 ∷ 0x07 ∷ (0x80 + size / 256) ∷ size % 256 ∷ replicate size 0x55) ++ hex_of (0x00 ∷ 0x00 ∷ [])

abbrev pub unheard : ℕ → Number
unheard size = record { cell = record { state = repaired; octets = replicate size 0x55; note = 7 }; held = nothing_held }

abbrev pub from_base_on : List ℕ → Answer Number
from_base_on text = read_line (number_line 256 true) text

abbrev pub before_base : List ℕ → Answer Number
before_base text = read_line (number_line 256 false) text

-- a number of this state without octets, and all states in the order of rule 20.5
abbrev pub bare_as : State → Number
bare_as state = record { cell = record { state = state; octets = []; note = 0 }; held = nothing_held }

abbrev pub states : List State
states = unknown ∷ received ∷ spare ∷ repaired ∷ blank ∷ []

abbrev pub state_lines : List (List ℕ)
state_lines =
    characters "00000000000000"
    ∷ characters "01000000000000"
    ∷ characters "02000000000000"
    ∷ characters "03000000000000"
    ∷ characters "04000000000000"
    ∷ []

-- the image of a fresh session, with this first line
abbrev pub fresh_from : List ℕ → List ℕ
fresh_from first =
    first ++ (flatten (replicate 32 (characters "04000000000000\n")) ++ flatten (replicate 32 (characters "00000000000000\n")))

-- ---- the versions and sizes
pub record Limits : Type 0 where
  -- rules 20.8 and 20.9: version 02 is written, with 256 octets; version 01 has 160
  pub version-01 : image_version01 ≡ record { octet = 0x01; limit = 160 }
  pub version-02 : image_version02 ≡ record { octet = 0x02; limit = 256 }
  pub written : version_written ≡ record { octet = 0x02; limit = 256 }
  -- rule 20.20: the line of a number has at most 6 + 258 + 4 · 258 octets; the image of a fresh session has 39 + 64 · 15 characters, the
  -- longest 39 + 32 · 529 + 32 · 2,593
  pub line : number_line_limit 256 ≡ 1296
  pub number : number_size full ≡ 12
  pub fresh : image_size fresh_view ≡ 999
  pub longest : image_limit 256 ≡ 99943

-- ---- what is written
pub record Written : Type 0 where
  -- rules 20.2 to 20.5: a fresh session's first line, a blank number before the base, an unknown number from the base on
  pub fresh-first : octets_for (line (first_image_line image_version02)) (first_of fresh_view) ≡ characters "02000000000000000000000000000000000000\n"
  pub fresh-blank : octets_for (line (number_line 256 false)) (before fresh_view 0) ≡ characters "04000000000000\n"
  pub fresh-unknown : octets_for (line (number_line 256 true)) (ahead fresh_view 0) ≡ characters "00000000000000\n"
  -- rule 20.2: the base in two octets and the four counts in four octets each, high first
  pub counts : octets_for (line (first_image_line image_version01)) counted_first ≡ characters "01010200000001000000020000000304050607\n"
  -- rule 20.4: state, accepted octet, note, packet, n, m, messages
  pub number : octets_for (line (number_line 256 true)) full ≡ characters "0201010202AABB020201CC00\n"
  -- rule 20.5: the state octet
  pub states : map (λ (state : State). octets_for (line (number_line 256 true)) (bare_as state)) states
      ≡ map (λ (text : List ℕ). text ++ (0x0A ∷ [])) state_lines
  -- rules 20.1 to 20.5: the whole image of a fresh session
  pub fresh : image_text image_version02 fresh_view ≡ fresh_from (characters "02000000000000000000000000000000000000\n")
  pub fresh-01 : image_text image_version01 fresh_view ≡ fresh_from (characters "01000000000000000000000000000000000000\n")

-- ---- what a line reads as; the first two cases show rules 20.2 and 20.4
pub record Lines : Type 0 where
  pub counts : read_line (first_image_line image_version01) (characters "01010200000001000000020000000304050607") ≡ done counted_first
  pub number : from_base_on (characters "0201010202AABB020201CC00") ≡ done full
  pub states : map from_base_on state_lines ≡ map (λ (state : State). done (bare_as state)) states
  -- rule 20.1: all sixteen digits are read; the characters before and behind them are no digits
  pub digits : from_base_on (characters "02010102080123456789ABCDEF0000") ≡ done sixteen
  pub no-digits : map from_base_on (map (λ (c : ℕ). 0x30 ∷ c ∷ characters "000000000000") (0x2F ∷ 0x3A ∷ 0x40 ∷ 0x47 ∷ []))
      ≡ replicate 4 (refuse (numbered 20))
  -- rules 20.1 and 20.14: lower case, a carriage return, half an octet, an empty line
  pub lower-case : from_base_on (characters "0201010202aaBB020201CC00") ≡ refuse (numbered 20)
  pub carriage-return : from_base_on (characters "00000000000000\r") ≡ refuse (numbered 20)
  pub odd : from_base_on (characters "000000000000000") ≡ refuse (numbered 20)
  pub empty : from_base_on [] ≡ refuse (numbered 20)
  -- rule 20.15: octets missing or left over in a line
  pub unknown : from_base_on (characters "00000000000000") ≡ done bare
  pub missing : from_base_on (characters "000000000000") ≡ refuse (numbered 20)
  pub left_over : from_base_on (characters "0000000000000000") ≡ refuse (numbered 20)
  -- rule 20.13: a state over 4, accepted over 01, n over 8, m over 4
  pub state-over : from_base_on (characters "05000000000000") ≡ refuse (numbered 20)
  pub accepted-over : from_base_on (characters "00020000000000") ≡ refuse (numbered 20)
  pub n-last : from_base_on (characters "0101000001AA080100") ≡ done (with_messages 8 ([] ∷ []))
  pub n-over : from_base_on (characters "0101000001AA090100") ≡ refuse (numbered 20)
  pub m-last : from_base_on (characters "0101000001AA080400000000") ≡ done (with_messages 8 ([] ∷ [] ∷ [] ∷ [] ∷ []))
  pub m-over : from_base_on (characters "0101000001AA08050000000000") ≡ refuse (numbered 20)
  -- rule 20.13: a packet or a message over the limit, here one octet
  pub at-limit : read_line (number_line 1 true) (characters "0101000001AA010100") ≡ done (with_messages 1 ([] ∷ []))
  pub packet-over : read_line (number_line 1 true) (characters "0101000002AABB010100") ≡ refuse (numbered 20)
  pub message-over : read_line (number_line 1 true) (characters "0101000001AA010102BBCC") ≡ refuse (numbered 20)
  -- rules 20.9 and 20.16: a packet of 161 octets is read in version 02 only
  pub old-over : read_line (number_line image_version01.limit false) (with_packet 161) ≡ refuse (numbered 20)
  pub new-reads : read_line (number_line image_version02.limit false) (with_packet 161) ≡ done (unheard 161)
  -- rules 20.6 and 20.15: a length in a form that is not allowed
  pub length-c0 : from_base_on (characters "01010000C001AA0000") ≡ refuse (numbered 20)
  pub length_two : from_base_on (characters "010100008001AA0000") ≡ refuse (numbered 20)
  -- rule 20.17: n without m and m without n are not misshapen lines; they are outside the ranges
  pub n-alone : from_base_on (characters "0101000001AA0100") ≡ done (with_messages 1 [])
  pub m-alone : from_base_on (characters "0101000001AA000100") ≡ done (with_messages 0 ([] ∷ []))
  -- rule 20.7: accepted, n or m is not 00 before the base
  pub accepted-before : before_base (characters "0101000001AA0000") ≡ refuse (numbered 20)
  pub n-before : before_base (characters "0100000001AA0100") ≡ refuse (numbered 20)
  pub m-before : before_base (characters "0100000001AA000100") ≡ refuse (numbered 20)
  -- rule 20.9: each version reads its own octet only
  pub edition-02 : read_line (first_image_line image_version01) (characters "02010200000001000000020000000304050607") ≡ refuse (numbered 20)
  pub edition-01 : read_line (first_image_line image_version02) (characters "01010200000001000000020000000304050607") ≡ refuse (numbered 20)

-- ---- what a text reads as
pub record Texts : Type 0 where
  -- rules 20.1 and 20.14: a line feed ends each line
  pub no-feed : line_front (number_line 256 true) (characters "00000000000000") ≡ stopped (refusal (numbered 20))
  -- rule 20.13: a line missing or extra, where two are due; an empty line is one too many
  pub two : read_whole (sequence_of 2 (line (octet_to 9))) (characters "01\n02\n") ≡ done (1 ∷ 2 ∷ [])
  pub missing : read_whole (sequence_of 2 (line (octet_to 9))) (characters "01\n") ≡ refuse (numbered 20)
  pub extra : read_whole (sequence_of 2 (line (octet_to 9))) (characters "01\n02\n03\n") ≡ refuse (numbered 20)
  pub empty-line : read_whole (sequence_of 2 (line (octet_to 9))) (characters "01\n02\n\n") ≡ refuse (numbered 20)
  pub nothing : read_text [] ≡ refuse (numbered 20)
  -- rules 20.7 and 20.18: the first line before the base is accepted; the base is 1 and the counts sum to 0, which alone is 17
  pub accepted-before : read_text
      (characters "02000100000000000000000000000000000000\n04010000000000\n"
      ++ (flatten (replicate 31 (characters "04000000000000\n")) ++ flatten (replicate 32 (characters "00000000000000\n"))))
      ≡ refuse (numbered 20)
  -- rules 13.1 and 20.18: 17 if the base is 1 and the counts sum to 0
  pub base-1 : read_text (fresh_from (characters "02000100000000000000000000000000000000\n")) ≡ refuse (numbered 17)
  -- rule 20.18: 20 comes before 17. The base is 1, the counts sum to 0, and no line follows
  pub first_alone : read_text (characters "01000100000000000000000000000000000000\n") ≡ refuse (numbered 20)
  -- rule 20.12: which texts begin with two upper-case digits, and the octet that these name
  pub named : map names_edition (characters "02" ∷ characters "FF" ∷ characters "0a" ∷ characters "a0" ∷ characters "0" ∷ [] ∷ [])
      ≡ true ∷ true ∷ false ∷ false ∷ false ∷ false ∷ []
  pub named-octets : map edition_named (characters "02" ∷ characters "12" ∷ characters "FF" ∷ []) ≡ 0x02 ∷ 0x12 ∷ 0xFF ∷ []
  -- rule 20.12: two upper-case digits that name another version are 21, whatever follows
  pub edition-03 : read_text (characters "03") ≡ refuse (numbered 21)
  pub edition-00 : read_text (characters "00\r") ≡ refuse (numbered 21)
  pub edition-ff : read_text (characters "FF") ≡ refuse (numbered 21)
  pub edition-12 : read_text (characters "12") ≡ refuse (numbered 21)
  pub edition-0a : read_text (characters "0a") ≡ refuse (numbered 20)
  pub one-digit : read_text (characters "0") ≡ refuse (numbered 20)
  pub edition-02-alone : read_text (characters "02") ≡ refuse (numbered 20)

-- rules 13.2 and 20.18: 17 for counts whose sum passes 32 bits, in a session that is fresh otherwise
abbrev pub wrapped : View
wrapped =
    record {
      base = 0;
      counts = record { received = 0xFFFFFFFF; spare = 1; repaired = 0; lost = 0 };
      cells = fresh_view.cells;
      held = fresh_view.held;
    }

-- a session in memory with base 1 and counts of zero: the writer refuses it with 17 (rules 13.1 and 20.19)
abbrev pub broken : Lent
broken = lent 1 (record { received = 0; spare = 0; repaired = 0; lost = 0 }) [] [] []

pub record Cases : Type 0 where
  pub limits : Limits
  pub written : Written
  pub lines : Lines
  pub texts : Texts
  pub past-32-bits : in_ranges_only wrapped ≡ refuse (numbered 17)
  pub writer-17 : image_to_write image_version02 broken ≡ refuse (numbered 17)
