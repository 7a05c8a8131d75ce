-- The claims of this crate, about images as rules 20.1 to 20.20 define them. Statements alone.
use Rattle.std.specs.Prelude.{ℕ, ◌≤◌, ◌<◌, ◌≡◌, ◌⊎◌, ◌↔◌, true, false, List, [], ◌++◌, length, get_or}
use Rattle.length.specs.Refusals.{refusal, outside_ranges, bad_image, other_edition}
use Rattle.length.specs.Answers.{done, refused, refuse, fitted}
use Rattle.length.specs.Tables.{first, refusal_in, room_row}
use Rattle.length.specs.Claims.{Octets}
use Rattle.length.specs.declared.Refusal.{Refusal}
use Rattle.datagram.specs.Sizes.{packet_limit}
use Rattle.session.specs.Cells.{cell_at, kept_numbers, kept_ahead}
use Rattle.session.specs.Held.{held_at}
use Rattle.session.specs.View.{View, fresh_view}
use Rattle.session.specs.Ranges.{in_ranges, Sound}
use Rattle.session_held.specs.Table.{Lent, lent_by, view_in, view_of}
use Rattle.session_held.specs.Laid.{InRanges}
use Rattle.session_held.specs.declared.Session.{Session}
use Rattle.line.specs.Text.{characters}
use Rattle.image.specs.Parts.{read_whole}
use Rattle.image.specs.Layout.{ImageVersion, old_limit, image_version01, image_version02, lines_of, image}
use Rattle.image.specs.Octets.{image_lines}
use Rattle.image.specs.Image.{image_text, read_image, names_edition, edition_named, read_text, image_rows, image_to_write, ImageHolds}
use Rattle.image.specs.Image.{OfOctets, LentOctets, image_size, image_limit}
use Rattle.image.specs.Cases.{fresh_from, Cases}

-- ---- rule 20.11: reading an image gives a session equal to the one that was written
pub record ReadBack : Type 0 where
  -- every session that a version can hold, in its ranges or not
  pub held : (version : ImageVersion) (view : View) → version.octet < 256 → ImageHolds version.limit view
      → read_whole (image version) (image_text version view) ≡ done view
  -- a version 02 image can hold every session within its ranges, and that image always reads
  pub holds : (view : View) → Sound view → OfOctets view → ImageHolds packet_limit view
  pub session : (view : View) → Sound view → OfOctets view → read_text (image_text image_version02 view) ≡ done view
  -- not only the views are equal: a session within its ranges with the view that was read equals the written one in every number and octet
  pub lent : {session other : Lent} → InRanges session → LentOctets session → InRanges other
      → read_text (image_text image_version02 (view_in session)) ≡ done (view_in other) → other ≡ session
  pub struct : {session other : Session} → InRanges (lent_by session) → LentOctets (lent_by session) → InRanges (lent_by other)
      → read_text (image_text image_version02 (view_of session)) ≡ done (view_of other) → other ≡ session

-- ---- rule 20.10: one session has one image
pub record OneImage : Type 0 where
  -- what reads is written back to the same text
  pub written : (version : ImageVersion) (text : List ℕ) (view : View) → Octets text → read_image version text ≡ done view
      → image_text version view ≡ text
  -- so two texts that read as the same session are equal
  pub one : (version : ImageVersion) (text other : List ℕ) (view : View) → Octets text → Octets other → read_image version text ≡ done view
      → read_image version other ≡ done view → text ≡ other

-- ---- rules 20.1 and 20.3: the layout as text: the first line, those before the base, those from the base on
abbrev pub LineByLine : Type 0
LineByLine = (version : ImageVersion) (view : View) → image_text version view ≡ image_lines version.octet (lines_of view)

-- ---- rule 20.20: how long it is
pub record ImageSized : Type 0 where
  -- what the session holds decides the length, whatever the version
  pub settled : (version : ImageVersion) (view : View) → length (image_text version view) ≡ image_size view
  -- it is at most a constant that depends on the limit
  pub most : (limit : ℕ) (view : View) → ImageHolds limit view → image_size view ≤ image_limit limit
  -- which gives the size of a buffer that is large enough for any image
  pub lent : image_limit packet_limit ≡ 99943

-- ---- rules 20.13, 20.17 and 20.18: any text reads as a session or is refused, and each answer is given exactly where it must be
pub record ImageReads : Type 0 where
  -- a session: the text is its image, and it is within its ranges
  pub session : (version : ImageVersion) (text : List ℕ) (view : View) → version.octet < 256 → Octets text
      → (read_image version text ≡ done view)
      ↔ ((ImageHolds version.limit view) × (image_text version view ≡ text) × (in_ranges view ≡ true))
  -- 20: the text is not an image of any session, within its ranges or not
  pub misshapen : (version : ImageVersion) (text : List ℕ) → version.octet < 256 → Octets text
      → (read_image version text ≡ refuse bad_image)
      ↔ ((view : View) → ImageHolds version.limit view → image_text version view ≡ text → ⊥)
  -- then 17: it is an image of a session outside its ranges
  pub outside : (version : ImageVersion) (text : List ℕ) → version.octet < 256 → Octets text
      → (read_image version text ≡ refuse outside_ranges)
      ↔ ((view : View) × (ImageHolds version.limit view) × (image_text version view ≡ text) × (in_ranges view ≡ false))
  -- and no other refusal (rule 20.27)
  pub only : (version : ImageVersion) (text : List ℕ) (why : Refusal) → read_image version text ≡ refused why
      → (why ≡ refusal bad_image) ⊎ (why ≡ refusal outside_ranges)

-- ---- rules 20.8 to 20.10, 20.12 and 30.11: the two versions of an image
-- no packet and no message is over the limit
pub record Short (limit : ℕ) (view : View) : Type 0 where
  pub packet : (p : ℕ) → p < kept_numbers → length (cell_at view.cells p).octets ≤ limit
  pub message : (d : ℕ) → d < kept_ahead → (i : ℕ) → i < length (held_at view.held d).messages
      → length (get_or (held_at view.held d).messages i []) ≤ limit

pub record ImageVersions : Type 0 where
  -- a version holds a session exactly if none of its packets and messages is over the limit; version 02 holds every session
  pub holds : (limit : ℕ) (view : View) → Sound view → OfOctets view → (ImageHolds limit view) ↔ (Short limit view)
  pub holds_all : (view : View) → Sound view → OfOctets view → Short packet_limit view
  -- the images of one session in both versions restore the same session
  pub same : (view : View) → Sound view → OfOctets view → Short old_limit view
      → (read_text (image_text image_version01 view) ≡ done view) × (read_text (image_text image_version02 view) ≡ done view)
  -- what is restored is what one of them reads as
  pub either : (text : List ℕ) (view : View) → Octets text
      → (read_text text ≡ done view) ↔ ((read_image image_version01 text ≡ done view) ⊎ (read_image image_version02 text ≡ done view))
  -- one session has one image in each version: a text that reads is the session's image in 01 or in 02
  pub one : (text : List ℕ) (view : View) → Octets text → read_text text ≡ done view
      → (image_text image_version01 view ≡ text) ⊎ (image_text image_version02 view ≡ text)
  -- 21 exactly where the version octet can be read and is neither 01 nor 02
  pub other : (text : List ℕ) → (read_text text ≡ refuse other_edition)
      ↔ ((names_edition text ≡ true) × ((edition_named text ≡ image_version01.octet) → ⊥) × ((edition_named text ≡ image_version02.octet) → ⊥))

-- ---- the claims above say something: a fresh session meets all that they require, and its image reads back in both versions (rules 20.9
-- and 20.11)
pub record FreshImage : Type 0 where
  pub sound : Sound fresh_view
  pub octets : OfOctets fresh_view
  pub short : Short 160 fresh_view
  pub reads : read_text (fresh_from (characters "02000000000000000000000000000000000000\n")) ≡ done fresh_view
  pub reads-01 : read_text (fresh_from (characters "01000000000000000000000000000000000000\n")) ≡ done fresh_view

-- ---- rule 20.19: the writer refuses 17, then 13
abbrev pub ImageWrites : Type 0
ImageWrites = (version : ImageVersion) (session : Lent) (old : List ℕ)
    → refusal_in (fitted (image_to_write version session) old) ≡ first (image_rows session ++ room_row (image_text version (view_in session)) old)

pub record Claims : Type 0 where
  pub read_back : ReadBack
  pub one_image : OneImage
  pub lines : LineByLine
  pub sized : ImageSized
  pub reads : ImageReads
  pub editions : ImageVersions
  pub fresh_image : FreshImage
  pub writes : ImageWrites
  pub cases : Cases
