-- A session written as an image and read back, for another adapter to go on with (rules 20.10 to 20.13 and 20.17 to 20.22), by the public
-- calls and whatever they returned. How an image looks is defined in `image`; its two versions are in Editions. Every value of the
-- struct's type has arrays of the right lengths (`Sized`), 16-bit numbers in its table and octets in its stores (`LentOctets`), and every
-- slice of octets has values below 256 (`Octets`). Statements only.
use Rattle.std.specs.Prelude.{ℕ, ◌≤◌, ◌<◌, ◌≡◌, ◌⊎◌, ◌↔◌, true, false, length, take, Result, Ok, Err}
use mathlib.Core.List.{List, ◌++◌, Memᴰ as Among}
use Rattle.std.proofs.Math.Option.{some}
use Rattle.length.specs.Refusals.{refusal, no_room, outside_ranges, bad_image, other_edition}
use Rattle.length.specs.Answers.{done, written_outcome}
use Rattle.length.specs.Tables.{first, refusal_in, room_row}
use Rattle.length.specs.Claims.{Octets}
use Rattle.length.specs.declared.Refusal.{Refusal}
use Rattle.datagram.specs.Sizes.{packet_limit}
use Rattle.session.specs.Cells.{kept_numbers}
use Rattle.session.specs.Reached.{Known}
use Rattle.session.specs.Honest.{TrueCells}
use Rattle.session.specs.Ranges.{in_ranges}
use Rattle.session.specs.View.{View}
use Rattle.session_held.specs.Table.{lent_by, view_of}
use Rattle.session_held.specs.Promise.{Sized, Fresh}
use Rattle.session_held.specs.declared.Session.{Session}
use Rattle.sender.specs.Honest.{HonestSender}
use Rattle.image.specs.Layout.{ImageVersion, image_version01, image_version02}
use Rattle.image.specs.Image.{image_text, names_edition, edition_named, read_text, image_rows, ImageHolds, LentOctets, image_limit}
use Rattle.image.specs.Promise.{ImageWritten, ImageRead}
use Rattle.image.specs.declared.Restored.{Restored}
use Rattle.demands.specs.Common.Calls.{Call, Calls, start, ◌then◌, Called, call_refusal, left_by}
use Rattle.demands.specs.Demand2.GoesOn.{GoesOn}
use Rattle.demands.specs.Demand1.Demand1.{Unchanged}
use Rattle.demands.specs.Demand2.Demand2.{Saved, Begins, FreshLeaves, SavedLeaves, StaysKnown}
use Rattle.demands.specs.Demand3.Demand3.{TwoLists, BurstBack}
use Rattle.demands.specs.Demand3.Feeding.{sent_at, Fed, Takes}
use Rattle.demands.specs.Demand2.RoundTrips.{WrittenBack}

-- ---- the two calls
-- the image writer returned a size, and this text is what it wrote, unaltered
pub record Wrote (s : Session) (text : List ℕ) : Type 0 where
  pub old : List ℕ
  pub new : List ℕ
  pub size : ℕ
  pub call : ImageWritten s old new (Ok size)
  pub unaltered : text ≡ take size new

-- the answer that restores this session; and a read of this text returned it
abbrev pub restoring : Session → Restored
restoring t = record { session = t; answer = Ok tt }

abbrev pub ReadAs : List ℕ → Session → Type 0
ReadAs text t = ImageRead text (restoring t)

-- ---- the image versions
-- those that are read (rule 20.9)
abbrev pub IsRead : ImageVersion → Type 0
IsRead edition = (edition ≡ image_version01) ⊎ (edition ≡ image_version02)

-- a text names this version: its first octet can be read, and is this version's (rule 20.12)
pub record Names (edition : ImageVersion) (text : List ℕ) : Type 0 where
  pub reads : names_edition text ≡ true
  pub octet : edition_named text ≡ edition.octet

-- the text is this version's image of a session that the version can hold, within its ranges or not
pub record ImageOf (edition : ImageVersion) (text : List ℕ) (view : View) : Type 0 where
  pub holds : ImageHolds edition.limit view
  pub written : image_text edition view ≡ text

-- ---- a restore may rewind (rule 20.21)
-- demand 2 of every chain of calls from a restored session, from the image's base and counts on
pub record GoesOnFrom (image : View) (t : Session) : Type 0 where
  pub saved : Saved t
  pub holds : view_of t ≡ image
  pub goes_on : {u : Session} {calls : Calls} → Called t calls u → GoesOn image calls (view_of u)
  -- numbers leave in order, each place once, from the image's base on, and its counts grow by them (rule 28.6)
  pub leaves : {u : Session} {calls : Calls} → Called t calls u → SavedLeaves image (left_by calls) (view_of u)
  pub keeps : {u v : Session} {calls more : Calls} → Called t calls u → Called u more v → (p : ℕ) → p < kept_numbers
      → Known (view_of u).cells p
      → StaysKnown (view_of u) (left_by more) (view_of v) p
  pub never17 : {u : Session} {calls : Calls} {call : Call} → Called t (calls then call) u → call_refusal call ≡ some outside_ranges → ⊥

-- some calls, and then others
unfoldable pub followed_by : Calls → Calls → Calls
followed_by before start = before
followed_by before (after then call) = followed_by before after then call

-- ---- demand 3 starts at the restored state (rule 20.22): what it says, from this session on
pub record StartsAt (row datagrams : List (List ℕ)) (t : Session) : Type 0 where
  pub fed : Fed row datagrams t
  pub no_less_known : (first second : List ℕ) (one two : Session) → Takes row datagrams first t one → Takes row datagrams second t two
      → ((S : ℕ) → Among S first → Among S second)
      → TwoLists row (view_of one) (view_of two)
  pub known_right : TrueCells (sent_at row (view_of t)) (view_of t).cells
  pub burst_back : BurstBack (view_of t)

-- ---- the image reader refuses with 21, 20, 17 and then restores nothing (rule 20.18); the image writer refuses with 17, 13 (rule 20.19)
pub record ImageRefuses : Type 0 where
  -- 17 for a session outside its ranges, 13 for an image longer than the caller's buffer, which is then unchanged (rule 20.19)
  pub write : (s : Session) {old new : List ℕ} {w : Result ℕ Refusal} → ImageWritten s old new w
      → refusal_in (written_outcome w) ≡ first (image_rows (lent_by s) ++ room_row (image_text image_version02 (view_of s)) old)
  pub write_unchanged : (s : Session) → Unchanged (ImageWritten s)
  -- a buffer of `Image::limit` characters is large enough for any image (rule 20.20)
  pub room_enough : {s : Session} {old new : List ℕ} {w : Result ℕ Refusal} → Sized s → LentOctets (lent_by s) → ImageWritten s old new w
      → image_limit packet_limit ≤ length old → w ≡ Err (refusal no_room) → ⊥
  -- 21: the first octet can be read, and names no version that is read (rule 20.12)
  pub another_edition : {text : List ℕ} {r : Restored} → ImageRead text r
      → (r.answer ≡ Err (refusal other_edition))
      ↔ ((names_edition text ≡ true) × ((edition : ImageVersion) → IsRead edition → Names edition text → ⊥))
  -- 20: the first octet cannot be read; or it names a version that is read, and the text is that version's image of no session, within
  -- its ranges or not (rule 20.13)
  pub misshapen : {text : List ℕ} {r : Restored} → Octets text → ImageRead text r
      → (r.answer ≡ Err (refusal bad_image))
      ↔ ((names_edition text ≡ false)
      ⊎ ((edition : ImageVersion) × IsRead edition × Names edition text × ((view : View) → ImageOf edition text view → ⊥)))
  -- 17: the text is the image, in a version that is read, of a session outside its ranges (rules 20.17 and 20.18)
  pub outside : {text : List ℕ} {r : Restored} → Octets text → ImageRead text r
      → (r.answer ≡ Err (refusal outside_ranges))
      ↔ ((edition : ImageVersion) × IsRead edition × (view : View) × ImageOf edition text view × (in_ranges view ≡ false))
  -- and no other refusal (rule 20.27)
  pub only : {text : List ℕ} {r : Restored} {why : Refusal} → ImageRead text r → r.answer ≡ Err why
      → (why ≡ refusal other_edition) ⊎ ((why ≡ refusal bad_image) ⊎ (why ≡ refusal outside_ranges))
  -- a refused text restores nothing: the session that is returned is a fresh one (rule 20.18)
  pub nothing : {text : List ℕ} {r : Restored} {why : Refusal} → ImageRead text r → r.answer ≡ Err why → Fresh r.session

pub record Handover : Type 0 where
  -- reading an image gives a session equal to the one that was written, as a struct, and no other answer (rule 20.11)
  pub reads_back : {s : Session} {text : List ℕ} {r : Restored} → Sized s → LentOctets (lent_by s) → Wrote s text → ImageRead text r
      → r ≡ restoring s
  -- every session within its ranges can be handed over: it has an image, and that is read as this session
  pub every_one : {s : Session} → Saved s → LentOctets (lent_by s) → (text : List ℕ) × Wrote s text × ReadAs text s
  -- one session has one image (rule 20.10): two writes of it, into any buffers, write the same text; a text that was read in the version
  -- that is written is written back the same; and two texts of one version that were read as the same session are equal
  pub one_written : {s : Session} {text other : List ℕ} → Wrote s text → Wrote s other → text ≡ other
  pub writes_back : {t : Session} {text old new : List ℕ} {w : Result ℕ Refusal} → Octets text → Names image_version02 text → ReadAs text t
      → ImageWritten t old new w → length text ≤ length old → WrittenBack (length text) text old new w
  pub one_read : {t : Session} {text other : List ℕ} → Octets text → Octets other → edition_named text ≡ edition_named other
      → ReadAs text t → ReadAs other t → text ≡ other
  -- a restore may rewind, and then each number leaves once, counted from the image's own history (rule 20.21): for any text that was
  -- read, whoever wrote it and whenever
  pub rewinds : {text : List ℕ} {image : View} {t : Session} → read_text text ≡ done image → ReadAs text t → GoesOnFrom image t
  -- if a session wrote the image, the calls that led to that session and those on the restored one are one chain, and all of demand 2
  -- holds of it: each place leaves once, before the image or after it (rules 20.21 and 28.6). What left the first adapter after it wrote
  -- is not in that chain
  pub one_history : {first s t u : Session} {before after : Calls} {text : List ℕ} → Begins first → Called first before s
      → LentOctets (lent_by s) → Wrote s text → ReadAs text t → Called t after u
      → Called first (followed_by before after) u
  pub once_each : {first s t u : Session} {before after : Calls} {text : List ℕ} → Fresh first → Called first before s
      → LentOctets (lent_by s) → Wrote s text → ReadAs text t → Called t after u
      → FreshLeaves (left_by before ++ left_by after) (view_of u)
  -- demand 3 starts at the restored state, if the image is unaltered and was written by a session that demand 3 covers, with the same
  -- honest sender (rule 20.22)
  pub demand3 : (row datagrams : List (List ℕ)) → HonestSender row datagrams → {s t : Session} {text : List ℕ} → Fed row datagrams s
      → LentOctets (lent_by s) → Wrote s text → ReadAs text t → StartsAt row datagrams t
  -- what the image reader and the image writer refuse (rules 20.12, 20.13 and 20.17 to 20.20)
  pub refuses : ImageRefuses
