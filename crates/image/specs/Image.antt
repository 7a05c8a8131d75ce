-- A receiving session written as an image, and read back. The reader refuses 21, then 20, then 17 (rules 20.12 and 20.18), the writer 17,
-- then 13 (rule 20.19). The 13 is not here: every call that writes to the caller's buffer has the same one (rule 2.13). Definitions only.
use Rattle.std.specs.Prelude.{ℕ, ◌+◌, ◌*◌, ◌^◌, ◌≤◌, ◌<◌, ◌≡◌, Bool, false, not, cond, ◌&&◌, List, [], ◌∷◌, map, length, get_or, eqb}
use Rattle.std.proofs.Math.Option.{Option}
use Rattle.octets.specs.Place.{tab}
use Rattle.length.specs.Refusals.{outside_ranges, bad_image, other_edition}
use Rattle.length.specs.Answers.{Answer, done, refuse, ◌>>=◌}
use Rattle.length.specs.Tables.{when, unless}
use Rattle.length.specs.Claims.{Octets}
use Rattle.length.specs.declared.Reason.{Reason}
use Rattle.datagram.specs.Sizes.{covered_limit, messages_limit}
use Rattle.datagram.specs.Write.{sum_of}
use Rattle.datagram.specs.Inner.Heads.{item_size, items_size}
use Rattle.session.specs.Cells.{cell_at, kept_before, kept_ahead, kept_numbers}
use Rattle.session.specs.Held.{held_at}
use Rattle.session.specs.View.{View, numbers}
use Rattle.session.specs.Ranges.{in_ranges}
use Rattle.session_held.specs.Table.{Lent, view_in}
use Rattle.session_held.specs.Laid.{lent_in_ranges}
use Rattle.line.specs.Hex.{digit_of}
use Rattle.image.specs.Parts.{octets_for, read_whole, upper_digit, Sendable}
use Rattle.image.specs.Layout.{ImageVersion, image_version01, image_version02, Number, before, ahead, image}

-- the characters of a session's image
unfoldable pub image_text : ImageVersion → View → List ℕ
image_text version view = octets_for (image version) view

-- 17: the session is outside its ranges
abbrev pub in_ranges_only : View → Answer View
in_ranges_only view = cond (in_ranges view) (done view) (refuse outside_ranges)

-- what any text reads as in one version: 20 over the whole image, then 17 (rule 20.18)
unfoldable pub read_image : ImageVersion → List ℕ → Answer View
read_image version text = do
  view ← read_whole (image version) text
  in_ranges_only view

-- whether the version octet can be read: the first two characters are digits `0` to `9` or `A` to `F` (rule 20.12)
unfoldable pub names_edition : List ℕ → Bool
names_edition [] = false
names_edition (high ∷ []) = false
names_edition (high ∷ low ∷ text) = upper_digit high && upper_digit low

-- the version octet, where it can be read
unfoldable pub edition_named : List ℕ → ℕ
edition_named [] = 0
edition_named (high ∷ []) = 0
edition_named (high ∷ low ∷ text) = digit_of high * 16 + digit_of low

-- what a text reads as if its version octet is `octet`: 21 if that is neither 01 nor 02
abbrev pub read_by : ℕ → List ℕ → Answer View
read_by octet text =
    cond (eqb octet image_version01.octet) (read_image image_version01 text)
    (cond (eqb octet image_version02.octet) (read_image image_version02 text) (refuse other_edition))

-- what any text reads as
unfoldable pub read_text : List ℕ → Answer View
read_text text = cond (names_edition text) (read_by (edition_named text) text) (refuse bad_image)

-- what the writer writes of a session: 17 if it is outside its ranges (rule 20.19)
abbrev pub image_rows : Lent → List (Option Reason)
image_rows session = when (not (lent_in_ranges session)) outside_ranges ∷ []

unfoldable pub image_to_write : ImageVersion → Lent → Answer (List ℕ)
image_to_write version session = unless (image_rows session) (image_text version (view_in session))

-- ---- what an image can hold: numbers that fit their octets, packets and messages within the limit
pub record ImageHolds (limit : ℕ) (view : View) : Type 0 where
  pub base : view.base < 256 ^ 2
  pub received : view.counts.received < 256 ^ 4
  pub spare : view.counts.spare < 256 ^ 4
  pub repaired : view.counts.repaired < 256 ^ 4
  pub lost : view.counts.lost < 256 ^ 4
  pub kept : length view.cells ≡ kept_numbers
  pub ahead : length view.held ≡ kept_ahead
  pub note : (p : ℕ) → p < kept_numbers → (cell_at view.cells p).note < 256 ^ 2
  pub packet : (p : ℕ) → p < kept_numbers → Sendable limit (cell_at view.cells p).octets
  pub covered : (d : ℕ) → d < kept_ahead → (held_at view.held d).n ≤ covered_limit
  pub few : (d : ℕ) → d < kept_ahead → length (held_at view.held d).messages ≤ messages_limit
  pub message : (d : ℕ) → d < kept_ahead → (i : ℕ) → i < length (held_at view.held d).messages
      → Sendable limit (get_or (held_at view.held d).messages i [])

-- what the types of a session's numbers ensure, within its ranges or not: a note is a datagram's number, and packets and messages are lists
-- of octets
pub record OfOctets (view : View) : Type 0 where
  pub note : (p : ℕ) → p < kept_numbers → (cell_at view.cells p).note < numbers
  pub packet : (p : ℕ) → p < kept_numbers → Octets (cell_at view.cells p).octets
  pub message : (d : ℕ) → d < kept_ahead → (i : ℕ) → i < length (held_at view.held d).messages
      → Octets (get_or (held_at view.held d).messages i [])

-- the same of a session's memory: a table of 16-bit numbers, stores of octets
pub record LentOctets (session : Lent) : Type 0 where
  pub table : (i : ℕ) → get_or session.table i 0 < numbers
  pub octets : Octets session.octets
  pub messages : Octets session.messages

-- ---- how long it is (rule 20.20)
-- the characters of a line of `octets` octets
abbrev pub line_size : ℕ → ℕ
line_size octets = 2 * octets + 1

-- version, base and counts
abbrev pub first_image_size : ℕ
first_image_size = 1 + 2 + 4 * 4

-- state, accepted octet, note, packet, n, m and messages
abbrev pub number_size : Number → ℕ
number_size k = 6 + item_size (length k.cell.octets) + items_size (map length k.held.messages)

abbrev pub lines_size : ℕ → (ℕ → Number) → ℕ
lines_size n lines = sum_of (tab n (λ p. line_size (number_size (lines p))))

unfoldable pub image_size : View → ℕ
image_size view = line_size first_image_size + lines_size kept_before (before view) + lines_size kept_ahead (ahead view)

-- a packet or message of `limit` octets, with its length
abbrev pub longest_item : ℕ → ℕ
longest_item limit = 2 + limit

-- the most octets of the line of a number: a packet and all messages
abbrev pub number_line_limit : ℕ → ℕ
number_line_limit limit = 6 + longest_item limit + messages_limit * longest_item limit

-- the longest image: before the base there are no messages
abbrev pub image_limit : ℕ → ℕ
image_limit limit =
    line_size first_image_size + kept_before * line_size (6 + longest_item limit) + kept_ahead * line_size (number_line_limit limit)
