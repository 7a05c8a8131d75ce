-- Four conditions of the claims about images and honest senders are needed: without each of them its claim is false (rules 15.14, 20.11,
-- 20.21, 20.22 and 28.8). One fresh session gives up number 0. Another is offered a datagram 0 that the sender of `Example` never sends.
-- Such results exist, because each call terminates and keeps its promise. Definitions only.
use Rattle.std.specs.Prelude.{ℕ, ◌<◌, ◌≡◌, true, List, [], ◌∷◌, ◌++◌, length, take}
use Rattle.session_release.specs.declared.Released.{Released}
use Rattle.session.specs.Honest.{TrueCells}
use Rattle.session_held.specs.Table.{lent_by, view_of}
use Rattle.session_held.specs.Promise.{Fresh}
use Rattle.session_held.specs.declared.Session.{Session}
use Rattle.session_calls.specs.Receiver.{OfferOwes, ReleaseOwes}
use Rattle.session_calls.specs.declared.Returned.{Returned}
use Rattle.sender.specs.Honest.{HonestSender}
use Rattle.image.specs.Image.{LentOctets}
use Rattle.demands.specs.Common.Calls.{Calls, start, ◌then◌, release, Called, left_by}
use Rattle.demands.specs.Demand2.Demand2.{FreshLeaves}
use Rattle.demands.specs.Demand3.Feeding.{Near, sent_at, datagram_at, Fed}
use Rattle.demands.specs.Demand3.Example.{example_row, example_datagrams}
use Rattle.demands.specs.Requests.Handover.{Wrote, ReadAs, StartsAt}

-- ---- what the calls return
-- a fresh session gives up number 0; its images before and after
pub record GaveUp (s : Session) (r : Returned Released) (text later : List ℕ) : Type 0 where
  pub begun : Fresh s
  pub old : List ℕ
  pub new : List ℕ
  pub call : ReleaseOwes s true old new r
  pub small : LentOctets (lent_by r.session)
  pub first : Wrote s text
  pub second : Wrote r.session later

-- a datagram 0 with the packet `07`, where the sender's has `06`; a fresh session is offered it, and its image after that
abbrev pub strange : List ℕ
strange = 0x00 ∷ 0x00 ∷ 0x01 ∷ 0x07 ∷ 0x00 ∷ 0x00 ∷ []

pub record Misled (s : Session) (o : Returned (Unit {0})) (text : List ℕ) : Type 0 where
  pub begun : Fresh s
  pub call : OfferOwes s strange o
  pub small : LentOctets (lent_by o.session)
  pub wrote : Wrote o.session text

-- ---- an image that is altered (rule 20.11): a text may agree with the image in its version octet and read as another session
pub record AlteredReads (s t : Session) (text later : List ℕ) : Type 0 where
  pub agrees : take 2 later ≡ take 2 text
  pub reads : ReadAs later t
  pub another : t ≡ s → ⊥

-- ---- numbers counted from zero after a restore (rule 20.21): one number left before the image, none after it, and the session's counts
-- are not those of none
pub record CountedOn (s t : Session) (calls : Calls) (later : List ℕ) : Type 0 where
  pub before : Called s calls t
  pub reads : ReadAs later t
  pub after : Called t start t
  pub both : FreshLeaves (left_by calls ++ left_by start) (view_of t)
  pub after_only : FreshLeaves (left_by start) (view_of t) → ⊥

-- ---- demand 3 from an image that another session wrote (rule 20.22): the sender feeds s, and demand 3 does not start at what was read
pub record AnotherImage (s t : Session) (text : List ℕ) : Type 0 where
  pub honest : HonestSender example_row example_datagrams
  pub fed : Fed example_row example_datagrams s
  pub reads : ReadAs text t
  pub starts_not : StartsAt example_row example_datagrams t → ⊥

-- ---- two datagrams for a place (rules 15.14 and 28.8): one with the number of place 0, near the base, that is not the sender's makes
-- something else known
pub record SecondDatagram (s : Session) (o : Returned (Unit {0})) : Type 0 where
  pub honest : HonestSender example_row example_datagrams
  pub fed : Fed example_row example_datagrams s
  pub sent : 0 < length example_row
  pub near : Near 0 (view_of s)
  pub agrees : take 2 strange ≡ take 2 (datagram_at example_datagrams 0)
  pub wrong : TrueCells (sent_at example_row (view_of o.session)) (view_of o.session).cells → ⊥

pub record Sharp : Type 0 where
  pub altered : (s : Session) (r : Returned Released) (text later : List ℕ) → GaveUp s r text later → AlteredReads s r.session text later
  pub counted_on : (s : Session) (r : Returned Released) (text later : List ℕ) (g : GaveUp s r text later)
      → CountedOn s r.session (start then release true g.old g.new r.answer) later
  pub another_image : (s : Session) (o : Returned (Unit {0})) (text : List ℕ) → Misled s o text → AnotherImage s o.session text
  pub second_datagram : (s : Session) (o : Returned (Unit {0})) (text : List ℕ) → Misled s o text → SecondDatagram s o
