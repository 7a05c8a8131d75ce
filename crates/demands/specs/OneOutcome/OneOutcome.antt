-- For each public call, two outcomes that its promise allows are equal: the answer, the session after and the caller's buffer (rule
-- 28.14). Statements only.
use Rattle.std.specs.Prelude.{ℕ, ◌≡◌, List, Result}
use Rattle.length.specs.declared.Refusal.{Refusal}
use Rattle.length.specs.Length.{length_to_write}
use Rattle.length.specs.Promise.{Puts}
use Rattle.datagram.specs.declared.kind.Kind.{Kind}
use Rattle.datagram_writer.specs.Promise.{DatagramWritten}
use Rattle.packet.specs.declared.types.PacketKind as packet_kinds
use Rattle.packet.specs.declared.types.Ending.{Ending}
use Rattle.session_held.specs.Table.{Lent}
use Rattle.image.specs.Layout.{version_written}
use Rattle.image.specs.Image.{image_to_write}
use Rattle.image.specs.Promise.{ImageWritten, ImageRead}
use Rattle.length.specs.Claims as lengths
use Rattle.datagram.specs.Claims as datagrams
use Rattle.packet.specs.Claims as packets
use Rattle.packet.specs.Promise.{ReadBy, PacketWritten}
use Rattle.sender.specs.Claims as sending
use Rattle.session_calls.specs.Claims as sessions
use Rattle.session_calls.specs.Solver.{SolveOwes}
use Rattle.session_held.specs.declared.Session.{Session}
use Rattle.line.specs.Claims as lines
use Rattle.frame.specs.Claims as frames
use Rattle.frame_feed.specs.Claims as frame_feed
use Rattle.trace_replay.specs.Claims as replays
use Rattle.trace_compare.specs.Claims as comparisons
use Rattle.demands.specs.OneOutcome.OneTold.{One, OneTold}
use Rattle.demands.specs.OneOutcome.OneInside.{OneInside}

-- two outcomes that a writer's promise allows, of the caller's buffer too
abbrev pub OneWrite : (List ℕ → List ℕ → Result ℕ Refusal → Type 0) → Type 0
OneWrite promise = (old new other : List ℕ) (r q : Result ℕ Refusal) → promise old new r → promise old other q → (r ≡ q) × (new ≡ other)

-- `write` of `length_code`, `datagram_writer`, `packet_writer` and `image_writer`
pub record Writers : Type 0 where
  pub length : (n : ℕ) → OneWrite (Puts (length_to_write n))
  pub datagram : (number : ℕ) (packet : List ℕ) (kind : Kind) (lengths run : List ℕ)
      → OneWrite (DatagramWritten number packet kind lengths run)
  pub packet : (octet : ℕ) (kind : packet_kinds.PacketKind) (value : ℕ) (types lengths octets : List ℕ)
      → OneWrite (PacketWritten octet kind value types lengths octets)
  pub image : (s : Session) → OneWrite (ImageWritten s)
  -- `write_core` of `image_writer`, over the caller's memory
  pub image_core : (session : Lent) → OneWrite (Puts (image_to_write version_written session))

-- all public calls of the library: `read`, `read_within` and `write` of `length_code`; `read` of `datagram_reader`, `packet_reader`,
-- `packet_pencil` and `image_reader`; `write` of `datagram_writer`, `packet_writer` and `image_writer`; `Session::fresh`, `offer`,
-- `release` and `solve`; `Sender::fresh`, `in_ranges` and `send`; the program's `hex_to_octets`, `step`, `take_block` and `finish`;
-- `Joiner::fresh`, `field` and `lost` of `frame_joiner`; `turns` and `feed` of `frame_feed`; `replay` of `trace_replay_code`; `compare`
-- of `trace_compare_code`; the calls that only report a value; and those for callers inside this repository
pub record OneOutcome : Type 0 where
  pub lengths : lengths.OneOutcome
  pub datagrams : datagrams.OneOutcome
  pub packets : packets.OneOutcome
  pub second_reader : (octet : ℕ) (ending : Ending) (octets : List ℕ) → One (ReadBy octet ending octets)
  pub writers : Writers
  pub receiver : sessions.OneOutcome
  pub solver : (s : Session) → One (SolveOwes s)
  pub sender : sending.OneOutcome
  pub program : lines.OneOutcome
  pub joiner : frames.OneOutcome
  pub frame_feed : frame_feed.OneOutcome
  pub replay : replays.OneOutcome
  pub comparison : comparisons.OneOutcome
  pub image_reader : (text : List ℕ) → One (ImageRead text)
  pub told : OneTold
  pub inside : OneInside
