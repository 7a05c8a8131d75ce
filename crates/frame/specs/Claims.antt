-- The claims of this crate: one outcome, no 17 for the library's own joiners (rule 16.18), and the sender's frames on a line with losses
-- (rules 16.17, 16.19 and 17.4). Definitions only.
use Rattle.std.specs.Prelude.{ℕ, ◌≤◌, ◌≡◌, true, false, List, [], ◌∷◌, ◌++◌, Result, Ok, Err, length, take}
use Rattle.length.specs.Refusals.{refusal, outside_ranges}
use Rattle.length.specs.declared.Refusal.{Refusal}
use Rattle.frame.specs.Frame.{frame_limit, Frame, good, bad}
use Rattle.frame.specs.Joiner.{joining_of, joiner_in_ranges}
use Rattle.frame.specs.Promise.{FieldOwes, LossOwes, FreshMade}
use Rattle.frame.specs.Line.{Field, row_right, senders_frames, Cut, row_of, frames_left, Event, a_field, a_loss, events_on, none_lost}
use Rattle.frame.specs.Line.{handed_by}
use Rattle.frame.specs.Cases.{line_with, fresh_joiner, Cases}
use Rattle.frame.specs.declared.Joiner.{Joiner}
use Rattle.frame.specs.declared.Joined.{Joined}
use Rattle.frame.specs.declared.Handed.{Handed}
use Rattle.frame.specs.declared.Handed.TheVariants as handed

-- two outcomes that a promise allows are equal (rule 28.14)
pub record OneOutcome : Type 0 where
  pub field : {j : Joiner} {type : ℕ} {octets old new other : List ℕ} {r q : Joined} → FieldOwes j type octets old new r
      → FieldOwes j type octets old other q
      → (r ≡ q) × (new ≡ other)
  pub lost : {j : Joiner} {r q : Joined} → LossOwes j r → LossOwes j q → r ≡ q
  pub fresh : {j k : Joiner} → FreshMade j → FreshMade k → j ≡ k

-- ---- joiners that only the library's calls made and changed
pub data HandedOut : Joiner → Type 0 where
  fresh : {j : Joiner} → FreshMade j → HandedOut j
  fed : {j : Joiner} {type : ℕ} {octets old new : List ℕ} {r : Joined} → HandedOut j → FieldOwes j type octets old new r
      → HandedOut r.joiner
  lost : {j : Joiner} {r : Joined} → HandedOut j → LossOwes j r → HandedOut r.joiner

-- such a joiner is within its ranges, and no call refuses it with 17 (rule 16.18)
pub record Never17 : Type 0 where
  pub within : {j : Joiner} → HandedOut j → joiner_in_ranges j ≡ true
  pub field : {j : Joiner} {type : ℕ} {octets old new : List ℕ} {r : Joined} → HandedOut j → FieldOwes j type octets old new r
      → r.answer ≡ Err (refusal outside_ranges) → ⊥
  pub loss : {j : Joiner} {r : Joined} → HandedOut j → LossOwes j r → r.answer ≡ Err (refusal outside_ranges) → ⊥

-- ---- the honest line
-- the frame that an answer returns, at the front of the caller's buffer
abbrev pub frames_in : Result Handed Refusal → List ℕ → List Frame
frames_in (Ok handed.Nothing) new = []
frames_in (Ok (handed.Good n)) new = good (take n new) ∷ []
frames_in (Ok (handed.Bad n)) new = bad (take n new) ∷ []
frames_in (Err why) new = []

-- from this joiner on, calls for these events return these frames: each call has room for any frame, and any answer that its promise allows
pub data HandsOut : Joiner → List Event → List Frame → Type 0 where
  fed_nothing : {j : Joiner} → HandsOut j [] []
  fed_field : {j : Joiner} {f : Field} {old new : List ℕ} {r : Joined} {events : List Event} {frames : List Frame}
      → frame_limit ≤ length old
      → FieldOwes j f.type f.octets old new r
      → HandsOut r.joiner events frames
      → HandsOut j (a_field f ∷ events) (frames_in r.answer new ++ frames)
  fed_loss : {j : Joiner} {r : Joined} {events : List Event} {frames : List Frame} → LossOwes j r → HandsOut r.joiner events frames
      → HandsOut j (a_loss ∷ events) frames

-- for any row of fields that packets may hold, divided into packets in any way
pub record HonestLine : Type 0 where
  -- rule 16.19: the sender's frames are those that a fresh joiner returns if nothing is lost
  pub nothing_lost : (line : List Cut) {j : Joiner} {frames : List Frame} → FreshMade j → row_right (row_of line) ≡ true
      → none_lost line ≡ true → HandsOut j (events_on line) frames
      → frames ≡ senders_frames (row_of line)
  -- rule 16.17: with any packets lost, the joiner returns exactly those of the sender's frames for which nothing was lost since the field
  -- of types 1 to 5 before the frame, or the start, up to the frame's own end; in the sender's order, as good or bad, octet for octet
  pub with_losses : (line : List Cut) {j : Joiner} {frames : List Frame} → FreshMade j → row_right (row_of line) ≡ true
      → HandsOut j (events_on line) frames
      → frames ≡ frames_left line

-- ---- any events at all
-- whatever is fed, the calls return the frames that `handed_by` defines
pub record AnyEvents : Type 0 where
  pub handed : {j : Joiner} {events : List Event} {frames : List Frame} → HandedOut j → HandsOut j events frames
      → frames ≡ handed_by (joining_of j) events

-- ---- the claims above say something: from a fresh joiner on, the calls for the line of `LineCases` return these frames, and so all that
-- `HonestLine` and `AnyEvents` require can be met (rules 16.17 and 16.19)
pub record LineExample : Type 0 where
  -- whatever is fed to whatever joiner, the promises allow an answer to each call
  pub answers : (j : Joiner) (events : List Event) → (frames : List Frame) × HandsOut j events frames
  pub whole : HandsOut fresh_joiner (events_on (line_with false false false false))
      (good (0xAA ∷ []) ∷ bad (0xBB ∷ []) ∷ good (0xCC ∷ 0xDD ∷ []) ∷ bad (0xEE ∷ []) ∷ [])
  pub second_lost : HandsOut fresh_joiner (events_on (line_with false true false false)) (good (0xAA ∷ []) ∷ bad (0xEE ∷ []) ∷ [])

pub record Claims : Type 0 where
  pub one_outcome : OneOutcome
  pub never17 : Never17
  pub honest_line : HonestLine
  pub any_events : AnyEvents
  pub line_example : LineExample
  pub cases : Cases
