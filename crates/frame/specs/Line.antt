-- The sender's frames, defined on a row of fields without a joiner (rule 16.19); and a line on which packets are lost (rules 16.17 and
-- 17.4). Definitions only.
use Rattle.std.specs.Prelude.{ℕ, Bool, true, false, cond, ◌&&◌, length, leb, ltb}
use mathlib.Core.List.{List, [], ◌∷◌, ◌++◌, map, flatten}
use Rattle.std.proofs.Math.Option.{Option, none, some}
use Rattle.packet.specs.Packet.{types_limit, right_data}
use Rattle.frame.specs.Frame.{joiner_edition, Joining, tainted, Frame, good, bad, adds, hands_good, hands_bad, ends_frame, passes}
use Rattle.frame.specs.Frame.{Step, field_step}

-- a field as the sender gave it: its type, and the octets of its data, none if it has no data
pub record Field : Type 0 where
  pub type : ℕ
  pub octets : List ℕ

-- a packet may hold the field: it is neither 12 nor 14 (rule 16.11)
abbrev pub right_field : Field → Bool
right_field f = leb f.type (types_limit joiner_edition) && right_data joiner_edition f.type (ltb 0 (length f.octets))

unfoldable pub row_right : List Field → Bool
row_right [] = true
row_right (f ∷ row) = right_field f && row_right row

-- ---- the sender's frames
-- a row of fields is divided into stretches: each begins after the field of types 1 to 5 before it, or at the start, and goes up to and
-- including its own field of types 1 to 5
pub record Stretch : Type 0 where
  -- the fields before the one that ends it: types 0 and 6 to 11
  pub inside : List Field
  -- the type of the one that ends it
  pub end : ℕ

unfoldable pub stretches : List Field → List Field → List Stretch
stretches begun [] = []
stretches begun (f ∷ row) =
    cond (ends_frame f.type) (record { inside = begun; end = f.type } ∷ stretches [] row) (stretches (begun ++ (f ∷ [])) row)

-- the octets that are open after some fields of a stretch: type 0 adds (rule 16.2), types 6 to 11 drop what is open (rule 16.5). Once its
-- frame would have passed the limit, nothing more is kept in the stretch (rule 16.13)
abbrev pub gather : Option (List ℕ) → Field → Option (List ℕ)
gather none f = none
gather (some frame) f =
    cond (adds f.type) (cond (passes frame f.octets) none (some (frame ++ f.octets))) (some [])

unfoldable pub gathered : Option (List ℕ) → List Field → Option (List ℕ)
gathered start [] = start
gathered start (f ∷ row) = gathered (gather start f) row

-- the frame at the end of a stretch: a bad one (types 3 and 5), a good one that has octets (types 2 and 4), or none (rules 16.3 to 16.6)
abbrev pub ended : ℕ → Option (List ℕ) → List Frame
ended type none = []
ended type (some frame) =
    cond (hands_bad type) (bad frame ∷ [])
    (cond (hands_good type) (cond (ltb 0 (length frame)) (good frame ∷ []) [])
    [])

unfoldable pub frame_of : Stretch → List Frame
frame_of s = ended s.end (gathered (some []) s.inside)

unfoldable pub senders_frames : List Field → List Frame
senders_frames row = flatten (map frame_of (stretches [] row))

-- ---- a line
-- the row is divided into packets in any way, and some packets are lost
pub record Cut : Type 0 where
  pub fields : List Field
  pub lost : Bool

unfoldable pub row_of : List Cut → List Field
row_of [] = []
row_of (packet ∷ line) = packet.fields ++ row_of line

-- the row with its losses: each field arrived or was missed, and a lost packet, whatever it held, leaves a gap where it ends (rule 17.4)
pub data Arrival : Type 0 where
  arrived : Field → Arrival
  missed : Field → Arrival
  gap : Arrival

abbrev pub marks_in : Bool → List Field → List Arrival
marks_in false fields = map arrived fields
marks_in true fields = map missed fields ++ (gap ∷ [])

unfoldable pub marks_of : List Cut → List Arrival
marks_of [] = []
marks_of (packet ∷ line) = marks_in packet.lost packet.fields ++ marks_of line

-- for each stretch whether nothing was lost in it: since the field of types 1 to 5 before it, or the start, up to its own end (rule 16.17)
unfoldable pub wholes : Bool → List Arrival → List Bool
wholes whole [] = []
wholes whole (arrived f ∷ marks) = cond (ends_frame f.type) (whole ∷ wholes true marks) (wholes whole marks)
wholes whole (missed f ∷ marks) = cond (ends_frame f.type) (false ∷ wholes true marks) (wholes false marks)
wholes whole (gap ∷ marks) = wholes false marks

-- the frames of those stretches in which nothing was lost, in the sender's order
unfoldable pub frames_where : List Bool → List Stretch → List Frame
frames_where [] more = []
frames_where (whole ∷ flags) [] = []
frames_where (whole ∷ flags) (s ∷ more) = cond whole (frame_of s) [] ++ frames_where flags more

-- the sender's frames for which nothing was lost (rule 16.17)
unfoldable pub frames_left : List Cut → List Frame
frames_left line = frames_where (wholes true (marks_of line)) (stretches [] (row_of line))

-- ---- what the joiner is fed: the fields of a packet that arrived, one by one, and one lost number for a lost packet (rules 17.1 and 17.2)
pub data Event : Type 0 where
  a_field : Field → Event
  a_loss : Event

abbrev pub events_in : Bool → List Field → List Event
events_in false fields = map a_field fields
events_in true fields = a_loss ∷ []

unfoldable pub events_on : List Cut → List Event
events_on [] = []
events_on (packet ∷ line) = events_in packet.lost packet.fields ++ events_on line

-- nothing is lost
unfoldable pub none_lost : List Cut → Bool
none_lost [] = true
none_lost (packet ∷ line) = cond packet.lost false (none_lost line)

-- ---- any events at all
-- what an event does to what is kept; a field that a packet may not hold changes nothing (rule 16.11)
unfoldable pub event_step : Event → Joining → Step
event_step (a_field f) v = cond (right_field f) (field_step f.type f.octets v) (record { handed = none; after = v })
event_step a_loss v = record { handed = none; after = tainted }

abbrev pub list_of : Option Frame → List Frame
list_of none = []
list_of (some frame) = frame ∷ []

-- the frames that some events return, from what is kept on
unfoldable pub handed_by : Joining → List Event → List Frame
handed_by v [] = []
handed_by v (e ∷ events) = list_of (event_step e v).handed ++ handed_by (event_step e v).after events
