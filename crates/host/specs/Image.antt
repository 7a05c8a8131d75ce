-- What the calls from C on images promise: what the library's own calls promise, for the session in the caller's memory (rules 20.18,
-- 20.19, 24.3 and 24.11). Definitions only.
use Rattle.std.specs.Prelude.{ℕ, ◌≡◌, List}
use Rattle.length.specs.Answers.{fitted, size_of, over}
use Rattle.session_held.specs.Table.{lent_by}
use Rattle.image.specs.Layout.{version_written}
use Rattle.image.specs.Image.{image_to_write, read_text}
use Rattle.session_calls.specs.Receiver.{After}
use Rattle.host_answers.specs.Answers.{told, wrote_told}
use Rattle.host.specs.Receiver.{session_in}
use Rattle.host_answers.specs.declared.answers.Wrote.{Wrote}
use Rattle.host.specs.declared.receiver.Head.{Head}
use Rattle.host.specs.declared.image_calls.AfterRestore.{AfterRestore}

-- ---- write: the session's image to the front of the caller's buffer (rules 20.8 and 20.19)
pub record ImageHosted (h : Head) (table octets messages old new : List ℕ) (r : Wrote) : Type 0 where
  pub answer : r ≡ wrote_told (size_of (fitted (image_to_write version_written (lent_by (session_in h table octets messages))) old))
  pub lent : new ≡ over (fitted (image_to_write version_written (lent_by (session_in h table octets messages))) old) old

-- ---- read: the session that the text is an image of, within its ranges; if the text is refused, the memory is unchanged (rule 20.18)
pub record RestoreHosted (text : List ℕ) (h : Head) (table octets messages table₂ octets₂ messages₂ : List ℕ)
    (r : AfterRestore) : Type 0 where
  pub answer : r.answer ≡ told (read_text text)
  pub state : After (read_text text) (session_in h table octets messages) (session_in r.head table₂ octets₂ messages₂)
