-- How the numbers that left a receiving session, released or lost, are fed to a joiner (rules 17.1 to 17.3). A packet that does not read,
-- or whose octet names no edition, is fed as one lost number, since nothing in it can be trusted. Definitions only.
use Rattle.std.specs.Prelude.{ℕ, List, [], ◌∷◌, ◌++◌, map, take, Result, Ok, Err}
use Rattle.length.specs.declared.Refusal.{Refusal}
use Rattle.length.specs.Answers.{Answer, done, refused}
use Rattle.packet.specs.Edition.{by_edition}
use Rattle.packet.specs.Packet.{PacketAnswer, read_packet, data_of}
use Rattle.packet.specs.declared.types.Ending.{Ending}
use Rattle.packet.specs.declared.types.Ending.TheVariants.{Whole, Repaired}
use Rattle.packet.specs.declared.types.Field as packets
use Rattle.session.specs.Cells.{State, unknown, received, spare, repaired, blank}
use Rattle.session_held.specs.declared.ReleaseKind.{ReleaseKind}
use Rattle.session_held.specs.declared.ReleaseKind.TheVariants as kinds
use Rattle.session_release.specs.declared.Released.{Released}
use Rattle.frame.specs.Frame.{Frame, fresh_joining}
use Rattle.frame.specs.Line.{Field, Event, a_field, a_loss, handed_by}

-- a number that left a session: its packet, with the octet that names its edition and with its kind, or lost
pub data Heard : Type 0 where
  released : ℕ → State → List ℕ → Heard
  lost : Heard

-- what release returns, with the packet at the front of the caller's buffer; a refusal is no number. The caller names the edition at each
-- packet (rule 7.1)
abbrev pub heard_as : ℕ → ReleaseKind → List ℕ → Heard
heard_as edition kinds.Received octets = released edition received octets
heard_as edition kinds.Spare octets = released edition spare octets
heard_as edition kinds.Repaired octets = released edition repaired octets
heard_as edition kinds.Lost octets = lost

abbrev pub heard_from : ℕ → Result Released Refusal → List ℕ → List Heard
heard_from edition (Ok left) buffer = heard_as edition left.kind (take left.size buffer) ∷ []
heard_from edition (Err why) buffer = []

-- a packet that was released as repaired is read as repaired, and any other as received (rule 17.1)
abbrev pub ending_of : State → Ending
ending_of unknown = Whole
ending_of received = Whole
ending_of spare = Whole
ending_of repaired = Repaired
ending_of blank = Whole

-- a field of a packet's octets
abbrev pub field_in : List ℕ → packets.Field → Field
field_in s f = record { type = f.kind; octets = data_of s f }

-- what a packet is fed as, from its reading: its fields one by one (rule 17.1), or one lost number if it is refused (rule 17.3)
abbrev pub events_read : List ℕ → Answer PacketAnswer → List Event
events_read s (done p) = map (λ f. a_field (field_in s f)) p.fields
events_read s (refused why) = a_loss ∷ []

unfoldable pub events_of : Heard → List Event
events_of (released edition kind octets) = events_read octets (by_edition edition (λ e. read_packet e (ending_of kind) octets))
events_of lost = a_loss ∷ []

-- all numbers that left, in order
unfoldable pub events_from : List Heard → List Event
events_from [] = []
events_from (h ∷ heard) = events_of h ++ events_from heard

-- the frames that a fresh joiner returns for them
unfoldable pub frames_from : List Heard → List Frame
frames_from heard = handed_by fresh_joining (events_from heard)
