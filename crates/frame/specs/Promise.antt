-- What each call of a joiner promises (rules 16.11 to 16.16). Each promise settles the answer, the joiner after the call and the caller's
-- whole buffer, for every joiner of the struct's type and every input. Definitions only.
use Rattle.std.specs.Prelude.{ℕ, ◌≡◌, Bool, true, not, cond, List, [], ◌∷◌, Result, Ok, Err, length, ltb, eqb}
use Rattle.std.proofs.Math.Option.{Option, none, some}
use Rattle.length.specs.Refusals.{not_assigned, no_room, wrong_data, outside_ranges, frame_too_long, number_of}
use Rattle.length.specs.Answers.{Answer, done, refused, mapped, over}
use Rattle.length.specs.Tables.{when, unless}
use Rattle.length.specs.declared.Refusal.{Refusal}
use Rattle.length.specs.declared.Reason.{Reason}
use Rattle.packet.specs.Packet.{types_limit, right_data}
use Rattle.frame.specs.Frame.{joiner_edition, Joining, tainted, fresh_joining, Frame, good, bad, field_step, would_pass}
use Rattle.frame.specs.Joiner.{held_as, joining_of, joiner_in_ranges}
use Rattle.frame.specs.declared.Joiner.{Joiner}
use Rattle.frame.specs.declared.Joined.{Joined}
use Rattle.frame.specs.declared.Handed.{Handed}
use Rattle.frame.specs.declared.Handed.TheVariants as handed

-- ---- the answer
-- what an answer reports: nothing, or a good or bad frame by its size
pub data Told : Type 0 where
  nothing : Told
  good_of : ℕ → Told
  bad_of : ℕ → Told

-- each case of the answer, as the rules' number and values (rule 30.10)
abbrev pub handed_outcome : Result Handed Refusal → Answer Told
handed_outcome (Ok handed.Nothing) = done nothing
handed_outcome (Ok (handed.Good n)) = done (good_of n)
handed_outcome (Ok (handed.Bad n)) = done (bad_of n)
handed_outcome (Err r) = refused r

abbrev pub frame_octets : Option Frame → List ℕ
frame_octets none = []
frame_octets (some (good frame)) = frame
frame_octets (some (bad frame)) = frame

abbrev pub told_of : Option Frame → Told
told_of none = nothing
told_of (some (good frame)) = good_of (length frame)
told_of (some (bad frame)) = bad_of (length frame)

abbrev pub told_in : Answer (Option Frame) → Answer Told
told_in answer = mapped told_of answer

-- whether a call changes the joiner: 18 is the only refusal that does (rules 2.25 and 16.13)
abbrev pub changes : Answer (Option Frame) → Bool
changes (done frame) = true
changes (refused r) = eqb (number_of r.reason) (number_of frame_too_long)

-- ---- a field, with a buffer of `room` octets
-- its refusals in order: 17, 12, 14, 18, 13 (rule 16.14)
abbrev pub field_rows : ℕ → ℕ → List ℕ → Joiner → List (Option Reason)
field_rows room type octets j =
    when (not (joiner_in_ranges j)) outside_ranges
    ∷ when (ltb (types_limit joiner_edition) type) not_assigned
    ∷ when (not (right_data joiner_edition type (ltb 0 (length octets)))) wrong_data
    ∷ when (would_pass type octets (joining_of j)) frame_too_long
    ∷ when (ltb room (length (frame_octets (field_step type octets (joining_of j)).handed))) no_room
    ∷ []

unfoldable pub field_answer : ℕ → ℕ → List ℕ → Joiner → Answer (Option Frame)
field_answer room type octets j = unless (field_rows room type octets j) (field_step type octets (joining_of j)).handed

unfoldable pub joiner_after : ℕ → ℕ → List ℕ → Joiner → Joiner
joiner_after room type octets j =
    cond (changes (field_answer room type octets j)) (held_as (field_step type octets (joining_of j)).after) j

pub record FieldOwes (j : Joiner) (type : ℕ) (octets old new : List ℕ) (r : Joined) : Type 0 where
  pub answer : handed_outcome r.answer ≡ told_in (field_answer (length old) type octets j)
  pub lent : new ≡ over (mapped frame_octets (field_answer (length old) type octets j)) old
  pub state : r.joiner ≡ joiner_after (length old) type octets j

-- ---- a lost number (rules 16.8 and 16.16)
unfoldable pub loss_answer : Joiner → Answer (Option Frame)
loss_answer j = unless (when (not (joiner_in_ranges j)) outside_ranges ∷ []) none

unfoldable pub joiner_after_loss : Joiner → Joiner
joiner_after_loss j = cond (changes (loss_answer j)) (held_as tainted) j

pub record LossOwes (j : Joiner) (r : Joined) : Type 0 where
  pub answer : handed_outcome r.answer ≡ told_in (loss_answer j)
  pub state : r.joiner ≡ joiner_after_loss j

-- ---- a fresh joiner (rule 16.1)
pub record FreshMade (j : Joiner) : Type 0 where
  pub state : j ≡ held_as fresh_joining
