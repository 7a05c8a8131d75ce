-- The claims of this crate: one outcome, and the frames that a session's numbers make (rules 17.1 to 17.3), with two worked examples.
-- Definitions only.
use Rattle.std.specs.Prelude.{ℕ, ◌≡◌, List, [], ◌∷◌}
use Rattle.session.specs.Cells.{State, unknown, received, spare, repaired}
use Rattle.frame.specs.Frame.{Frame, good}
use Rattle.frame.specs.Promise.{FreshMade}
use Rattle.frame.specs.Claims.{HandsOut}
use Rattle.frame.specs.declared.Joiner.{Joiner}
use Rattle.frame.specs.declared.Joined.{Joined}
use Rattle.frame_feed.specs.Feed.{Heard, released, lost, events_of, events_from, frames_from}
use Rattle.frame_feed.specs.Promise.{TurnsTold, FeedOwes}

-- two outcomes that a promise allows are equal (rule 28.14)
pub record OneOutcome : Type 0 where
  pub turns : {edition : ℕ} {kind : State} {packet : List ℕ} {r q : ℕ} → TurnsTold edition kind packet r → TurnsTold edition kind packet q
      → r ≡ q
  pub feed : {j : Joiner} {edition : ℕ} {kind : State} {packet : List ℕ} {turn : ℕ} {old new other : List ℕ} {r q : Joined}
      → FeedOwes j edition kind packet turn old new r → FeedOwes j edition kind packet turn old other q
      → (r ≡ q) × (new ≡ other)

-- in the old edition, octet 0 (rule 7.1): a frame in one packet; one whose beginning is lost (rule 17.2); one in a repaired packet, whose
-- zeros at the end are no field (rule 17.1); an indicator; and a packet that is refused, so that the next frame is dropped (rule 17.3)
abbrev pub example_heard : List Heard
example_heard =
    released 0 received (0xC0 ∷ 0x02 ∷ 0x80 ∷ 0x00 ∷ 0x02 ∷ 0xFF ∷ 0x13 ∷ 0x80 ∷ 0x40 ∷ [])
    ∷ lost
    ∷ released 0 spare (0xC0 ∷ 0x01 ∷ 0x80 ∷ 0x00 ∷ 0x00 ∷ 0x55 ∷ [])
    ∷ released 0 received (0xC0 ∷ 0x01 ∷ 0x20 ∷ [])
    ∷ released 0 repaired (0xC0 ∷ 0x02 ∷ 0x80 ∷ 0x00 ∷ 0x00 ∷ 0xAA ∷ 0x40 ∷ 0x00 ∷ [])
    ∷ released 0 received (0x06 ∷ [])
    ∷ released 0 received (0x01 ∷ [])
    ∷ released 0 received (0xC0 ∷ 0x02 ∷ 0x80 ∷ 0x00 ∷ 0x00 ∷ 0xBB ∷ 0x40 ∷ [])
    ∷ []

-- in the new edition, octet 1, where a header has five bits (rule 7.9): a frame in one packet; the beginning of a second frame, a packet
-- whose edition octet is 2, so that the second frame is dropped (rule 17.3), and its end; then a third frame in one packet
abbrev pub new_heard : List Heard
new_heard =
    released 1 received (0xC0 ∷ 0x02 ∷ 0x80 ∷ 0x00 ∷ 0x02 ∷ 0xFF ∷ 0x13 ∷ 0x80 ∷ 0x10 ∷ [])
    ∷ released 1 received (0xC0 ∷ 0x01 ∷ 0x80 ∷ 0x00 ∷ 0x00 ∷ 0xAA ∷ [])
    ∷ released 2 received (0xC0 ∷ 0x01 ∷ 0x80 ∷ 0x00 ∷ 0x00 ∷ 0xBB ∷ [])
    ∷ released 1 received (0xC0 ∷ 0x01 ∷ 0x10 ∷ [])
    ∷ released 1 received (0xC0 ∷ 0x02 ∷ 0x80 ∷ 0x00 ∷ 0x00 ∷ 0xCC ∷ 0x20 ∷ [])
    ∷ []

pub record Claims : Type 0 where
  pub one_outcome : OneOutcome
  -- whatever numbers left a session, a fresh joiner that is fed with them, with room for any frame, returns the frames of `frames_from`
  pub frames : (heard : List Heard) {j : Joiner} {frames : List Frame} → FreshMade j → HandsOut j (events_from heard) frames
      → frames ≡ frames_from heard
  -- a lost number may be fed as a packet of no octets (rules 17.2 and 17.3)
  pub lost_alike : (edition : ℕ) → events_of (released edition unknown []) ≡ events_of lost
  pub example : frames_from example_heard ≡ good (0xFF ∷ 0x13 ∷ 0x80 ∷ []) ∷ good (0xAA ∷ []) ∷ []
  pub new_example : frames_from new_heard ≡ good (0xFF ∷ 0x13 ∷ 0x80 ∷ []) ∷ good (0xCC ∷ []) ∷ []
