-- What the functions promise that read an image line by line (rules 20.2, 20.3 and 20.18). Definitions only.
use Rattle.std.specs.Prelude.{◌≡◌, ℕ, ◌+◌, ◌*◌, ◌≤◌, Bool, List, [], ◌∷◌, ◌++◌, Option, Some, None, Err, length, drop, ◌≢◌, slice_index, slice_index_or}
use Rattle.length.specs.Refusals.{refusal, bad_image}
use Rattle.length.specs.Answers.{done, refuse}
use Rattle.length.specs.declared.Reason.{Reason}
use Rattle.format.specs.Reading.{found}
use Rattle.format.specs.Format.{Format, sequence_of}
use Rattle.session.specs.Cells.{kept_before, kept_ahead}
use Rattle.session_held.specs.Table.{counts_of, lent, view_in}
use Rattle.session_held.specs.Laid.{Laid}
use Rattle.session_held.specs.Promise.{Fresh}
use Rattle.image.specs.Parts.{read_whole, high_first, line_front, line}
use Rattle.image.specs.Layout as layout
use Rattle.image.specs.Layout.{number_line, image, from_base}
use Rattle.image.specs.Image.{first_image_size, read_image}
use Rattle.image.specs.Promise.{restored_outcome, Restores}
use Rattle.image.specs.declared.Restored.{Restored}
use Rattle.image_reader.specs.Laying.{Lengths, Filled}
use Rattle.image_reader.specs.declared.whole.First.{First}

-- ---- the first line
-- rule 20.2: its octets are the version octet, the base in two octets and the four counts in four octets each, high first
pub record FirstIs (octet : ℕ) (s : List ℕ) (f : layout.FirstImageLine) : Type 0 where
  pub long : length s ≡ first_image_size
  pub edition : slice_index_or s 0 0 ≡ octet
  pub base : f.base ≡ high_first 2 (drop 1 s)
  pub received : f.counts.received ≡ high_first 4 (drop 3 s)
  pub spare : f.counts.spare ≡ high_first 4 (drop 7 s)
  pub repaired : f.counts.repaired ≡ high_first 4 (drop 11 s)
  pub lost : f.counts.lost ≡ high_first 4 (drop 15 s)

-- the first line that the code returns
abbrev pub first_told : First → layout.FirstImageLine
first_told r = record { base = r.base; counts = counts_of r.counts }

pub record FirstImageRead (octet : ℕ) (s : List ℕ) (end : ℕ) (r : First) : Type 0 where
  pub is : FirstIs octet s (first_told r)
  pub after : r.end ≡ end

abbrev pub FirstImageCase : ℕ → List ℕ → ℕ → Option First → Type 0
FirstImageCase octet s end (Some r) = FirstImageRead octet s end r
FirstImageCase octet s end None = (f : layout.FirstImageLine) → FirstIs octet s f → ⊥

pub record FirstImageTold (octet : ℕ) (s : List ℕ) (end : ℕ) (r : Option First) : Type 0 where
  pub answer : FirstImageCase octet s end r

-- the first line of a text, whatever the limit of its version
abbrev pub FirstLineCase : ℕ → List ℕ → Option First → Type 0
FirstLineCase octet text (Some r) =
    (limit : ℕ) → line_front (layout.first_image_line (record { octet = octet; limit = limit })) text ≡ found (first_told r) r.end
FirstLineCase octet text None =
    (limit : ℕ) (f : layout.FirstImageLine) (n : ℕ)
    → line_front (layout.first_image_line (record { octet = octet; limit = limit })) text ≢ found f n

pub record FirstLineTold (octet : ℕ) (text : List ℕ) (r : Option First) : Type 0 where
  pub answer : FirstLineCase octet text r

-- ---- one line of a number
pub record LineLaid (limit : ℕ) (ahead : Bool) (base k : ℕ)
    (text table octets messages new_table new_octets new_messages : List ℕ) (next : ℕ) : Type 0 where
  pub number : layout.Number
  pub read : line_front (number_line limit ahead) text ≡ found number next
  pub sized : Lengths new_table new_octets new_messages
  pub lays : (rows : List layout.Number) → length rows ≡ from_base ahead kept_before + k → Filled base rows table octets messages
      → Filled base (rows ++ (number ∷ [])) new_table new_octets new_messages

abbrev pub LineCase : ℕ → Bool → ℕ → ℕ → List ℕ → List ℕ → List ℕ → List ℕ → List ℕ → List ℕ → List ℕ → Option ℕ → Type 0
LineCase limit ahead base k text table octets messages new_table new_octets new_messages (Some next) =
    LineLaid limit ahead base k text table octets messages new_table new_octets new_messages next
LineCase limit ahead base k text table octets messages new_table new_octets new_messages None =
    (number : layout.Number) (next : ℕ) → line_front (number_line limit ahead) text ≢ found number next

pub record LineTold (limit : ℕ) (ahead : Bool) (base k : ℕ)
    (text table octets messages new_table new_octets new_messages : List ℕ) (r : Option ℕ) : Type 0 where
  pub answer : LineCase limit ahead base k text table octets messages new_table new_octets new_messages r

-- ---- the lines before the base, or those from the base on
abbrev pub number_lines : ℕ → Bool → Format (List layout.Number)
number_lines limit ahead = sequence_of kept_ahead (line (number_line limit ahead))

pub record LinesLaid (limit : ℕ) (ahead : Bool) (base : ℕ) (text : List ℕ) (from : ℕ)
    (table octets messages new_table new_octets new_messages : List ℕ) (end : ℕ) : Type 0 where
  pub numbers : List layout.Number
  pub read : (number_lines limit ahead).read text 0 (8 * from) ≡ found numbers (8 * end)
  pub many : length numbers ≡ kept_ahead
  pub inside : end ≤ length text
  pub sized : Lengths new_table new_octets new_messages
  pub lays : (rows : List layout.Number) → length rows ≡ from_base ahead kept_before → Filled base rows table octets messages
      → Filled base (rows ++ numbers) new_table new_octets new_messages

abbrev pub LinesCase : ℕ → Bool → ℕ → List ℕ → ℕ → List ℕ → List ℕ → List ℕ → List ℕ → List ℕ → List ℕ → Option ℕ → Type 0
LinesCase limit ahead base text from table octets messages new_table new_octets new_messages (Some end) =
    LinesLaid limit ahead base text from table octets messages new_table new_octets new_messages end
LinesCase limit ahead base text from table octets messages new_table new_octets new_messages None =
    (numbers : List layout.Number) (p : ℕ) → (number_lines limit ahead).read text 0 (8 * from) ≢ found numbers p

pub record LinesTold (limit : ℕ) (ahead : Bool) (base : ℕ) (text : List ℕ) (from : ℕ)
    (table octets messages new_table new_octets new_messages : List ℕ) (r : Option ℕ) : Type 0 where
  pub answer : LinesCase limit ahead base text from table octets messages new_table new_octets new_messages r

-- ---- the whole
-- a table and stores that hold zeros
pub record Cleared (entries kept heard : List ℕ) : Type 0 where
  pub sized : Lengths entries kept heard
  pub table : (k : ℕ) → slice_index entries k ≡ 0
  pub octets : (k : ℕ) → slice_index kept k ≡ 0
  pub messages : (k : ℕ) → slice_index heard k ≡ 0

-- what read_core promises: the session that the text reads as, stored as `session_held` lays it out, or that the text is no image
pub record CoreRead (octet limit : ℕ) (text table octets messages : List ℕ) (r : First) : Type 0 where
  pub is : read_whole (image (record { octet = octet; limit = limit })) text ≡ done (view_in (lent r.base r.counts table octets messages))
  pub laid : Laid table octets messages

abbrev pub CoreCase : ℕ → ℕ → List ℕ → List ℕ → List ℕ → List ℕ → Option First → Type 0
CoreCase octet limit text table octets messages (Some r) = CoreRead octet limit text table octets messages r
CoreCase octet limit text table octets messages None =
    read_whole (image (record { octet = octet; limit = limit })) text ≡ refuse bad_image

pub record CoreTold (octet limit : ℕ) (text table octets messages : List ℕ) (r : Option First) : Type 0 where
  pub answer : CoreCase octet limit text table octets messages r

-- what reading a text in one version promises
pub record EditionRead (octet limit : ℕ) (text : List ℕ) (r : Restored) : Type 0 where
  pub answer : restored_outcome r ≡ read_image (record { octet = octet; limit = limit }) text
  pub state : Restores r.answer r.session

-- rule 20.18: a refused text restores nothing
pub record NothingRestored (why : Reason) (r : Restored) : Type 0 where
  pub answer : r.answer ≡ Err (refusal why)
  pub state : Fresh r.session
