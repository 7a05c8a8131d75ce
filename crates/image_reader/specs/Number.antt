-- The items of a number's line (rules 20.4 to 20.7): which octets they are, and which parts of the line the packet and the messages are.
-- They are proved equal to what `Layout` of `image` reads. And what the functions promise that find them. Definitions only.
use Rattle.std.specs.Prelude.{◌≡◌, ℕ, ◌+◌, ◌*◌, ◌≤◌, Bool, List, Option, Some, None, map, length, take, nat_lt, slice_index}
use Rattle.length.specs.Answers.{done}
use Rattle.datagram.specs.Sizes.{message_least, covered_limit, messages_limit}
use Rattle.datagram.specs.Read.{after, octets_of, item_at, items_at, end_of}
use Rattle.datagram.specs.declared.reader.Part.{Part}
use Rattle.session_held.specs.Table.{last_state, state_numbered}
use Rattle.image.specs.Layout as layout
use Rattle.image.specs.Layout.{from_base}
use Rattle.image_reader.specs.declared.number.Tail.{Tail}
use Rattle.image_reader.specs.declared.number.Number.{Number}

-- ---- n, m and m messages from a place on, and nothing after them (rule 20.15)
pub record TailIs (limit : ℕ) (ahead : Bool) (s : List ℕ) (at n : ℕ) (messages : List Part) : Type 0 where
  pub room : at + 2 ≤ length s
  pub covered : n ≡ slice_index s at
  pub most : n ≤ from_base ahead covered_limit
  pub counted : length messages ≡ slice_index s (at + 1)
  pub few : length messages ≤ from_base ahead messages_limit
  pub read : items_at message_least limit s (at + 2) (length messages) ≡ done messages
  pub ends : end_of (at + 2) messages ≡ length s

pub record TailRead (limit : ℕ) (ahead : Bool) (s : List ℕ) (at : ℕ) (r : Tail) : Type 0 where
  pub is : TailIs limit ahead s at r.n (take r.m r.parts)
  pub counted : length (take r.m r.parts) ≡ r.m

abbrev pub TailCase : ℕ → Bool → List ℕ → ℕ → Option Tail → Type 0
TailCase limit ahead s at (Some r) = TailRead limit ahead s at r
TailCase limit ahead s at None = (n : ℕ) (messages : List Part) → TailIs limit ahead s at n messages → ⊥

pub record TailTold (limit : ℕ) (ahead : Bool) (s : List ℕ) (at : ℕ) (r : Option Tail) : Type 0 where
  pub answer : TailCase limit ahead s at r

-- ---- the whole line
pub record LineParts : Type 0 where
  pub state : ℕ
  pub mark : ℕ
  pub note : ℕ
  pub packet : Part
  pub n : ℕ
  pub messages : List Part

pub record NumberIs (limit : ℕ) (ahead : Bool) (s : List ℕ) (x : LineParts) : Type 0 where
  pub long : 4 ≤ length s
  pub state : x.state ≡ slice_index s 0
  pub last : x.state ≤ last_state
  pub mark : x.mark ≡ slice_index s 1
  pub marked : x.mark ≤ from_base ahead 1
  pub note : x.note ≡ slice_index s 2 * 256 + slice_index s 3
  pub packet : item_at message_least limit s 4 ≡ done x.packet
  pub tail : TailIs limit ahead s (after x.packet) x.n x.messages

-- the number that these items make
abbrev pub number_by : List ℕ → LineParts → layout.Number
number_by s x =
    record {
      cell = record { state = state_numbered x.state; octets = octets_of s x.packet; note = x.note };
      held = record { accepted = nat_lt 0 x.mark; n = x.n; messages = map (octets_of s) x.messages };
    }

-- the items that the code returns
abbrev pub parts_of : Number → LineParts
parts_of r =
    record {
      state = r.state;
      mark = r.mark;
      note = r.note;
      packet = r.packet;
      n = r.n;
      messages = take r.m r.parts;
    }

pub record NumberRead (limit : ℕ) (ahead : Bool) (s : List ℕ) (r : Number) : Type 0 where
  pub is : NumberIs limit ahead s (parts_of r)
  pub counted : length (take r.m r.parts) ≡ r.m

abbrev pub NumberCase : ℕ → Bool → List ℕ → Option Number → Type 0
NumberCase limit ahead s (Some r) = NumberRead limit ahead s r
NumberCase limit ahead s None = (x : LineParts) → NumberIs limit ahead s x → ⊥

pub record NumberTold (limit : ℕ) (ahead : Bool) (s : List ℕ) (r : Option Number) : Type 0 where
  pub answer : NumberCase limit ahead s r
