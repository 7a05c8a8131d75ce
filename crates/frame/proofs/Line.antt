-- The honest line: field by field the joiner keeps what the stretch so far gives, if nothing was lost in it, and is tainted otherwise.
-- A lost packet taints, whatever stretches it held. Assumes nothing.
use Prim.Native.Nat.{ℕ, ◌≤◌}
use mathlib.Core.Path.{◌≡◌, refl, sym, ap, ap₂, subst, ◌∙◌}
use mathlib.Core.Bool.{Bool, true, false, cond, false≢true}
use mathlib.Core.List.{List, [], ◌∷◌, ◌++◌, map, flatten, append_assoc}
use mathlib.Core.Option.{none}
use lib.ListN.{length}
use native.Mathlib.Omega.{arith}
use Rattle.octets.proofs.Laws.{and_left, and_right}
use Rattle.frame.specs.Frame.{frame_limit, tainted, opened, Frame, ends_frame, Step, field_step}
use Rattle.frame.specs.Joiner.{held_as}
use Rattle.frame.specs.Promise.{FieldOwes, LossOwes, FreshMade}
use Rattle.frame.specs.Line.{Field, right_field, row_right, Stretch, stretches, gathered, frame_of, senders_frames}
use Rattle.frame.specs.Line.{Cut, row_of, Arrival, arrived, missed, gap, marks_in, marks_of, wholes, frames_where, frames_left}
use Rattle.frame.specs.Line.{Event, a_field, a_loss, events_in, events_on, none_lost, list_of}
use Rattle.frame.specs.Claims.{frames_in, HandsOut, fed_nothing, fed_field, fed_loss, HonestLine}
use Rattle.frame.specs.declared.Joiner.{Joiner}
use Rattle.frame.specs.declared.Joined.{Joined}
use Rattle.frame.proofs.Laws.{Fitting}
use Rattle.frame.proofs.Fed.{step_fits, FedBy, fed-field, fed-loss}
use Rattle.frame.proofs.Stretch.{kept_after, on-going, on-end}

-- ---- the calls, one after the other
-- the first call, and those after it
record First (j : Joiner) (f : Field) (events : List Event) (frames : List Frame) : Type 0 where
  old : List ℕ
  new : List ℕ
  joined : Joined
  more : List Frame
  wide : frame_limit ≤ length old
  owes : FieldOwes j f.type f.octets old new joined
  next : HandsOut joined.joiner events more
  all : frames ≡ frames_in joined.answer new ++ more

first_of : {j : Joiner} {f : Field} {events : List Event} {frames : List Frame} → HandsOut j (a_field f ∷ events) frames
    → First j f events frames
first_of (fed_field {old = old} {new} {r} {frames = more} wide owes next) =
    record { old = old; new = new; joined = r; more = more; wide = wide; owes = owes; next = next; all = refl }

record FirstLost (j : Joiner) (events : List Event) (frames : List Frame) : Type 0 where
  joined : Joined
  owes : LossOwes j joined
  next : HandsOut joined.joiner events frames

first-lost : {j : Joiner} {events : List Event} {frames : List Frame} → HandsOut j (a_loss ∷ events) frames → FirstLost j events frames
first-lost (fed_loss {r = r} owes next) = record { joined = r; owes = owes; next = next }

none-fed : {j : Joiner} {frames : List Frame} → HandsOut j [] frames → frames ≡ []
none-fed fed_nothing = refl

-- the frames are those of the whole stretches, from a joiner that keeps what the stretch so far gives
abbrev FramesOf : List Event → List Arrival → List Field → Type 0
FramesOf events marks row = (whole : Bool) (begun : List Field) (frames : List Frame) → Fitting (kept_after whole begun)
    → HandsOut (held_as (kept_after whole begun)) events frames → frames ≡ frames_where (wholes whole marks) (stretches begun row)

-- a call of a field, and those after it
module _ (f : Field) (events : List Event) (marks : List Arrival) (row : List Field) (go : FramesOf events marks row) (whole : Bool)
    (begun : List Field) {frames : List Frame} (one : First (held_as (kept_after whole begun)) f events frames)
    (did : FedBy (field_step f.type f.octets (kept_after whole begun)).after
    (field_step f.type f.octets (kept_after whole begun)).handed one.new one.joined)
  where
    arrive-end : ends_frame f.type ≡ true
        → frames ≡ cond whole (frame_of (record { inside = begun; end = f.type })) [] ++ frames_where (wholes true marks) (stretches [] row)
    unfolding gathered
    arrive-end e =
        let end = on-end f whole begun e in
        let joiner : one.joined.joiner ≡ held_as (opened []) = did.joiner ∙ ap held_as end.after in
        one.all
        ∙ ap₂ (λ (a b : List Frame). a ++ b) (did.frames ∙ end.handed)
        (go true [] one.more (omega arith) (subst (λ (k : Joiner). HandsOut k events one.more) joiner one.next))

    arrive-on : ends_frame f.type ≡ false → frames ≡ frames_where (wholes whole marks) (stretches (begun ++ (f ∷ [])) row)
    arrive-on e =
        let on = on-going f whole begun e in
        let after : (field_step f.type f.octets (kept_after whole begun)).after ≡ kept_after whole (begun ++ (f ∷ [])) =
        ap (λ (s : Step). s.after) on in
        let out : (field_step f.type f.octets (kept_after whole begun)).handed ≡ none = ap (λ (s : Step). s.handed) on in
        let joiner : one.joined.joiner ≡ held_as (kept_after whole (begun ++ (f ∷ []))) = did.joiner ∙ ap held_as after in
        one.all
        ∙ ap₂ (λ (a b : List Frame). a ++ b) (did.frames ∙ ap list_of out)
        (go whole (begun ++ (f ∷ [])) one.more (subst Fitting after (step_fits f.type f.octets (kept_after whole begun)))
        (subst (λ (k : Joiner). HandsOut k events one.more) joiner one.next))

-- the fields of a packet that arrived
fields-arrive : (fields : List Field) (events : List Event) (marks : List Arrival) (row : List Field) → row_right (fields ++ row) ≡ true
    → FramesOf events marks row → FramesOf (map a_field fields ++ events) (map arrived fields ++ marks) (fields ++ row)
unfolding row_right wholes stretches frames_where
fields-arrive [] events marks row right rest whole begun frames fits fed = rest whole begun frames fits fed
fields-arrive (f ∷ fields) events marks row right rest whole begun frames fits fed =
    by (fields-arrive fields events marks row (and_right (right_field f) _ right) rest) (ends_frame f.type) refl
  where
    one : First (held_as (kept_after whole begun)) f (map a_field fields ++ events) frames
    one = first_of fed

    did : FedBy (field_step f.type f.octets (kept_after whole begun)).after
        (field_step f.type f.octets (kept_after whole begun)).handed
        one.new
        one.joined
    did = fed-field (kept_after whole begun) fits (and_left (right_field f) _ right) one.wide one.owes

    by : FramesOf (map a_field fields ++ events) (map arrived fields ++ marks) (fields ++ row) → (b : Bool) → ends_frame f.type ≡ b
        → frames
        ≡ frames_where (cond b (whole ∷ wholes true (map arrived fields ++ marks)) (wholes whole (map arrived fields ++ marks)))
        (cond b (record { inside = begun; end = f.type } ∷ stretches [] (fields ++ row)) (stretches (begun ++ (f ∷ [])) (fields ++ row)))
    by go true e = arrive-end f (map a_field fields ++ events) (map arrived fields ++ marks) (fields ++ row) go whole begun one did e
    by go false e = arrive-on f (map a_field fields ++ events) (map arrived fields ++ marks) (fields ++ row) go whole begun one did e

-- ---- a lost packet
-- what a stretch has so far after the fields of a packet
afterward : List Field → List Field → List Field
afterward begun [] = begun
afterward begun (f ∷ fields) = cond (ends_frame f.type) (afterward [] fields) (afterward (begun ++ (f ∷ [])) fields)

-- it hands out nothing, and what follows it is not whole
fields-missed : (fields : List Field) (whole : Bool) (begun : List Field) (marks : List Arrival) (row : List Field)
    → frames_where (wholes whole (map missed fields ++ (gap ∷ marks))) (stretches begun (fields ++ row))
    ≡ frames_where (wholes false marks) (stretches (afterward begun fields) row)
unfolding wholes stretches frames_where afterward
fields-missed [] whole begun marks row = refl
fields-missed (f ∷ fields) whole begun marks row =
    by (fields-missed fields true [] marks row) (fields-missed fields false (begun ++ (f ∷ [])) marks row) (ends_frame f.type)
  where
    by : frames_where (wholes true (map missed fields ++ (gap ∷ marks))) (stretches [] (fields ++ row))
        ≡ frames_where (wholes false marks) (stretches (afterward [] fields) row)
        → frames_where (wholes false (map missed fields ++ (gap ∷ marks))) (stretches (begun ++ (f ∷ [])) (fields ++ row))
        ≡ frames_where (wholes false marks) (stretches (afterward (begun ++ (f ∷ [])) fields) row)
        → (b : Bool)
        → frames_where
        (cond b (false ∷ wholes true (map missed fields ++ (gap ∷ marks))) (wholes false (map missed fields ++ (gap ∷ marks))))
        (cond b (record { inside = begun; end = f.type } ∷ stretches [] (fields ++ row)) (stretches (begun ++ (f ∷ [])) (fields ++ row)))
        ≡ frames_where (wholes false marks) (stretches (cond b (afterward [] fields) (afterward (begun ++ (f ∷ [])) fields)) row)
    by ends goes_on true = ends
    by ends goes_on false = goes_on

-- ---- the whole line
right-rest : (fields row : List Field) → row_right (fields ++ row) ≡ true → row_right row ≡ true
unfolding row_right
right-rest [] row right = right
right-rest (f ∷ fields) row right = right-rest fields row (and_right (right_field f) _ right)

line-frames : (line : List Cut) → row_right (row_of line) ≡ true → FramesOf (events_on line) (marks_of line) (row_of line)
unfolding row_of events_on marks_of wholes stretches frames_where
line-frames [] right whole begun frames fits fed = none-fed fed
line-frames (packet ∷ line) right whole begun frames fits fed =
    by (line-frames line (right-rest packet.fields (row_of line) right)) packet.lost fed
  where
    by : FramesOf (events_on line) (marks_of line) (row_of line) → (lost : Bool)
        → HandsOut (held_as (kept_after whole begun)) (events_in lost packet.fields ++ events_on line) frames
        → frames
        ≡ frames_where (wholes whole (marks_in lost packet.fields ++ marks_of line)) (stretches begun (packet.fields ++ row_of line))
    by rest false heard =
        fields-arrive packet.fields (events_on line) (marks_of line) (row_of line) right rest whole begun frames fits heard
    by rest true heard =
        let one = first-lost heard in
        let joiner : one.joined.joiner ≡ held_as tainted = fed-loss (kept_after whole begun) fits one.owes in
        rest false (afterward begun packet.fields) frames 0
        (subst (λ (k : Joiner). HandsOut k (events_on line) frames) joiner one.next)
        ∙ sym (fields-missed packet.fields whole begun (marks_of line) (row_of line))
        ∙ ap (λ (m : List Arrival). frames_where (wholes whole m) (stretches begun (packet.fields ++ row_of line)))
        (sym (append_assoc (map missed packet.fields) (gap ∷ []) (marks_of line)))

-- ---- nothing lost
-- every stretch is whole
fields-all : (fields begun : List Field) (marks : List Arrival) (row : List Field)
    → ((b : List Field) → frames_where (wholes true marks) (stretches b row) ≡ flatten (map frame_of (stretches b row)))
    → frames_where (wholes true (map arrived fields ++ marks)) (stretches begun (fields ++ row))
    ≡ flatten (map frame_of (stretches begun (fields ++ row)))
unfolding wholes stretches frames_where flatten
fields-all [] begun marks row rest = rest begun
fields-all (f ∷ fields) begun marks row rest =
    by (fields-all fields [] marks row rest) (fields-all fields (begun ++ (f ∷ [])) marks row rest) (ends_frame f.type)
  where
    by : frames_where (wholes true (map arrived fields ++ marks)) (stretches [] (fields ++ row))
        ≡ flatten (map frame_of (stretches [] (fields ++ row)))
        → frames_where (wholes true (map arrived fields ++ marks)) (stretches (begun ++ (f ∷ [])) (fields ++ row))
        ≡ flatten (map frame_of (stretches (begun ++ (f ∷ [])) (fields ++ row)))
        → (b : Bool)
        → frames_where (cond b (true ∷ wholes true (map arrived fields ++ marks)) (wholes true (map arrived fields ++ marks)))
        (cond b (record { inside = begun; end = f.type } ∷ stretches [] (fields ++ row)) (stretches (begun ++ (f ∷ [])) (fields ++ row)))
        ≡ flatten
        (map frame_of
        (cond b (record { inside = begun; end = f.type } ∷ stretches [] (fields ++ row)) (stretches (begun ++ (f ∷ [])) (fields ++ row))))
    by ends goes_on true = ap (λ (l : List Frame). frame_of (record { inside = begun; end = f.type }) ++ l) ends
    by ends goes_on false = goes_on

all_whole : (line : List Cut) (begun : List Field) → none_lost line ≡ true
    → frames_where (wholes true (marks_of line)) (stretches begun (row_of line)) ≡ flatten (map frame_of (stretches begun (row_of line)))
unfolding none_lost row_of marks_of wholes stretches frames_where flatten
all_whole [] begun none-lost = refl
all_whole (packet ∷ line) begun none-lost = by (λ b. all_whole line b) packet.lost none-lost where
  by : ((b : List Field) → none_lost line ≡ true
      → frames_where (wholes true (marks_of line)) (stretches b (row_of line)) ≡ flatten (map frame_of (stretches b (row_of line))))
      → (lost : Bool)
      → cond lost false (none_lost line) ≡ true
      → frames_where (wholes true (marks_in lost packet.fields ++ marks_of line)) (stretches begun (packet.fields ++ row_of line))
      ≡ flatten (map frame_of (stretches begun (packet.fields ++ row_of line)))
  by rest true e = absurd (false≢true e)
  by rest false e = fields-all packet.fields begun (marks_of line) (row_of line) (λ b. rest b e)

-- ---- the claim
with-losses : (line : List Cut) {j : Joiner} {frames : List Frame} → FreshMade j → row_right (row_of line) ≡ true
    → HandsOut j (events_on line) frames → frames ≡ frames_left line
unfolding frames_left gathered
with-losses line {j} {frames} fresh right fed =
    line-frames line right true [] frames (omega arith) (subst (λ (k : Joiner). HandsOut k (events_on line) frames) fresh.state fed)

pub honest-line : HonestLine
unfolding senders_frames frames_left
honest-line =
    record {
      nothing_lost =
          λ line {j} {frames} fresh right none-lost fed. with-losses line fresh right fed ∙ all_whole line [] none-lost;
      with_losses = λ line {j} {frames} fresh right fed. with-losses line fresh right fed;
    }
