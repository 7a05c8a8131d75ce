-- What the calls on images promise (rules 20.18 and 20.19). Each promise settles the answer and the caller's memory, for every session of
-- the struct's type and every text. Definitions only.
use Rattle.std.specs.Prelude.{◌≡◌, List, ℕ, ⊤, Result, Ok, Err}
use Rattle.length.specs.declared.Refusal.{Refusal}
use Rattle.length.specs.Answers.{Answer, done, refused}
use Rattle.length.specs.Promise.{Puts}
use Rattle.session.specs.View.{View}
use Rattle.session_held.specs.Table.{lent_by, view_of}
use Rattle.session_held.specs.Laid.{InRanges}
use Rattle.session_held.specs.Promise.{Fresh}
use Rattle.session_held.specs.declared.Session.{Session}
use Rattle.image.specs.Layout.{version_written}
use Rattle.image.specs.Image.{read_text, image_to_write}
use Rattle.image.specs.declared.Restored.{Restored}

-- ---- write: the session's image, to the front of the caller's buffer
abbrev pub ImageWritten : Session → List ℕ → List ℕ → Result ℕ Refusal → Type 0
ImageWritten s old new r = Puts (image_to_write version_written (lent_by s)) old new r

-- ---- read: the session that the text is an image of
-- the answer of each case, with the view of the session
abbrev pub restore_outcome : Result ⊤ Refusal → View → Answer View
restore_outcome (Ok tt) view = done view
restore_outcome (Err why) view = refused why

abbrev pub restored_outcome : Restored → Answer View
restored_outcome r = restore_outcome r.answer (view_of r.session)

-- rule 20.18: a restored session is within its ranges; of a refused text nothing is restored, and the session is a fresh one
abbrev pub Restores : Result ⊤ Refusal → Session → Type 0
Restores (Ok tt) s = InRanges (lent_by s)
Restores (Err why) s = Fresh s

pub record ImageRead (text : List ℕ) (r : Restored) : Type 0 where
  pub answer : restored_outcome r ≡ read_text text
  pub state : Restores r.answer r.session
