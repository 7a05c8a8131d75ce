-- Images in two versions: version 02 is written (rule 20.8); version 01, with its lower limit, is read too and restores the same session
-- (rule 20.9); one session has one image in each version that can hold it (rule 20.10). The layout is defined in `image`, and how a text
-- of another version is refused is in Handover. Statements only.
use Rattle.std.specs.Prelude.{ℕ, ◌≡◌, List, Ok}
use Rattle.length.specs.Claims.{Octets}
use Rattle.session.specs.View.{View}
use Rattle.session.specs.Ranges.{Sound}
use Rattle.session_held.specs.Table.{lent_by, view_of}
use Rattle.session_held.specs.declared.Session.{Session}
use Rattle.image.specs.Layout.{ImageVersion, old_limit, image_version01, image_version02}
use Rattle.image.specs.Image.{image_text, OfOctets, LentOctets}
use Rattle.image.specs.Promise.{ImageRead}
use Rattle.image.specs.Claims.{Short}
use Rattle.image.specs.declared.Restored.{Restored}
use Rattle.demands.specs.Demand2.Demand2.{Saved}
use Rattle.demands.specs.Requests.Handover.{Wrote, restoring, ReadAs, IsRead, Names}

-- a session within its ranges that an image version can hold: no packet and no message in it is over the version's limit
pub record HeldBy (edition : ImageVersion) (s : Session) : Type 0 where
  pub saved : Saved s
  pub lent : LentOctets (lent_by s)
  pub short : Short edition.limit (view_of s)

-- one session has one image in a version that is read (rule 20.10)
pub record OneImageIn (edition : ImageVersion) : Type 0 where
  -- a session that the version can hold has an image there, and it is read as the same session and as nothing else (rule 20.11)
  pub image : {s : Session} → HeldBy edition s → (text : List ℕ) × Names edition text × ReadAs text s
  pub same : {s : Session} {r : Restored} → HeldBy edition s → ImageRead (image_text edition (view_of s)) r → r ≡ restoring s
  -- what is read in this version is within its limit, and is the version's image of the session that it is read as: so there is no other
  pub limited : {t : Session} {text : List ℕ} → Octets text → Names edition text → ReadAs text t → Short edition.limit (view_of t)
  pub one : {t : Session} {text : List ℕ} → Octets text → Names edition text → ReadAs text t → text ≡ image_text edition (view_of t)

pub record Editions : Type 0 where
  -- version 02 is written, and it can hold every session within its ranges (rule 20.8)
  pub written : {s : Session} {text : List ℕ} → Wrote s text → (text ≡ image_text image_version02 (view_of s)) × Names image_version02 text
  pub holds_all : {s : Session} → Saved s → LentOctets (lent_by s) → HeldBy image_version02 s
  pub one_image : (edition : ImageVersion) → IsRead edition → OneImageIn edition
  -- the images of one session in both versions restore the same struct (rule 20.9)
  pub both_same : {s : Session} {r q : Restored} → HeldBy image_version01 s → ImageRead (image_text image_version01 (view_of s)) r
      → ImageRead (image_text image_version02 (view_of s)) q → r ≡ q
  -- an adapter with the limit of version 01 holds its session in another struct: its image restores a session that holds the same (rule
  -- 20.9)
  pub older : {view : View} {r : Restored} → Sound view → OfOctets view → Short old_limit view
      → ImageRead (image_text image_version01 view) r
      → (r.answer ≡ Ok tt) × (view_of r.session ≡ view)
