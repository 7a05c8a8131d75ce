-- What the program promises beyond safety and termination: which session it begins with, and of which session it leaves an image (rule
-- 20.23). Definitions only.
use Rattle.std.specs.Prelude.{ℕ, ◌≡◌, true, List}
use Rattle.length.specs.Answers.{done}
use Rattle.length.specs.Promise.{Puts}
use Rattle.session.specs.View.{View}
use Rattle.session_held.specs.Table.{Lent, lent_by, view_of}
use Rattle.session_held.specs.Laid.{InRanges}
use Rattle.image.specs.Layout.{version_written}
use Rattle.image.specs.Image.{read_text, image_to_write}
use Rattle.program_loop.specs.Promise.{Serves}
use Rattle.handover.specs.declared.loading.Begun.{Begun}
use Rattle.handover.specs.declared.playing.Played.{Played}

-- if nothing went wrong, the text is an image of this session; the session is within its ranges in any case
pub record BeginsWith (text : List ℕ) (r : Begun) : Type 0 where
  pub state : r.well ≡ true → read_text text ≡ done (view_of r.session)
  pub within : InRanges (lent_by r.session)

-- the run from a session on, and the image of the session that it ends with
pub record RunsFrom (first : View) (old new : List ℕ) (r : Played) : Type 0 where
  pub last : Lent
  pub serves : Serves first last r.taken r.handed r.whole
  pub image : Puts (image_to_write version_written last) old new r.image
