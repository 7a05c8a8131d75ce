-- Demand 1: any octets may come from the network and any saved session from a caller; every public call terminates, and it refuses
-- exactly what the rules say, with the number they say (rule 28.1). A refused call leaves the session and each buffer unchanged (rule
-- 28.2). That a call terminates is part of the proof of its contract, which requires nothing of its caller. The field with a call's name
-- says that its refusal is the first of its table that applies, and that it is done where none applies (rule 2.24); the field beside it
-- (`offer_unchanged`, `release_unchanged`, ..) says that a refusal changes nothing (rule 2.25). Readers change nothing. The datagram reader
-- and the packet reader refuse what their definitions meet in reading order; `is_datagram`, `is_packet` and `is_repaired` say without that
-- order what they do not refuse, and `datagram_refusals` and `packet_refusals` what they do, and at which place. The places of the other
-- calls are in `places`. The refusals of the calls on images are in Handover, of a joiner in `frame` (`field_rows`), and of replay and
-- compare in the claims of their crates. Statements only.
use Rattle.std.specs.Prelude.{ℕ, ◌≤◌, ◌≡◌, ◌↔◌, Bool, true, false, cond, List, ◌++◌, length, replicate, Result}
use Rattle.session_release.specs.declared.Released.{Released}
use Rattle.std.proofs.Math.Option.{none, some}
use Rattle.length.specs.declared.Reason.{Reason}
use Rattle.length.specs.declared.Refusal.{Refusal}
use Rattle.length.specs.Refusals.{outside_ranges, no_solution}
use Rattle.length.specs.Answers.{done, length_outcome, written_outcome}
use Rattle.length.specs.Tables.{first, refusal_in, place_in, room_row}
use Rattle.length.specs.Length.{length_octets, length_writer_rows, length_to_write}
use Rattle.length.specs.Promise.{LengthRead, WithinRead, Puts}
use Rattle.length.specs.Claims.{Octets}
use Rattle.length.specs.declared.Length.{Length}
use Rattle.datagram.specs.Sizes.{packet_limit}
use Rattle.datagram.specs.Read.{read_datagram}
use Rattle.datagram.specs.Write.{carried_of, datagram_octets, datagram_writer_rows, datagram_to_write}
use Rattle.datagram.specs.Promise.{DatagramReads, read_outcome}
use Rattle.datagram.specs.declared.kind.Kind.{Kind}
use Rattle.datagram.specs.declared.reader.DatagramRead.{DatagramRead}
use Rattle.datagram_writer.specs.Promise.{DatagramWritten}
use Rattle.packet.specs.Edition.{Edition, edition_of, by_edition}
use Rattle.packet.specs.Packet.{read_packet}
use Rattle.packet.specs.Write.{packet_octets, packet_writer_rows, packet_to_write}
use Rattle.packet.specs.Promise.{packet_outcome, ReadBy, PacketWritten}
use Rattle.packet.specs.declared.types.PacketKind as packets
use Rattle.packet.specs.declared.types.Ending.{Ending}
use Rattle.packet.specs.declared.types.Ending.TheVariants.{Whole, Repaired}
use Rattle.packet.specs.declared.types.Named.{Named}
use Rattle.packet.specs.declared.types.PacketRead.{PacketRead}
use Rattle.session_release.specs.Outcome.{released_outcome}
use Rattle.session_offer.specs.Outcome.{offered_outcome}
use Rattle.session_held.specs.Laid.{session_in_ranges}
use Rattle.session_held.specs.declared.Session.{Session}
use Rattle.session_calls.specs.Receiver.{OfferOwes, ReleaseOwes}
use Rattle.session_calls.specs.declared.Returned.{Returned}
use Rattle.solve_code.specs.Outcome.{solved_outcome}
use Rattle.session_calls.specs.Solver.{SolveOwes}
use Rattle.session_calls.specs.SolverClaims.{HasSolution, HasNone}
use Rattle.sender.specs.Send.{carried_next}
use Rattle.sender.specs.Sender.{sending_of}
use Rattle.sender.specs.Promise.{sender_rows, Sends}
use Rattle.sender.specs.declared.Sender.{Sender}
use Rattle.sender.specs.declared.Sent.{Sent}
use Rattle.sender.specs.declared.Settings.{Settings}
use Rattle.frame.specs.Promise.{handed_outcome, FieldOwes, LossOwes}
use Rattle.frame.specs.declared.Joiner.{Joiner}
use Rattle.frame.specs.declared.Joined.{Joined}
use Rattle.line.specs.Hex.{octets_in, line_rows, line_octets}
use Rattle.image.specs.Promise.{ImageWritten, ImageRead, restored_outcome}
use Rattle.image.specs.declared.Restored.{Restored}
use Rattle.demands.specs.Demand1.Refusals.{length_rows, within_rows, offer_rows, release_rows}
use Rattle.demands.specs.Common.NamedEdition.{Names, AnotherEdition}
use Rattle.demands.specs.Demand1.PacketRefusals.{PacketRefusals}
use Rattle.demands.specs.Demand1.DatagramRefusals.{DatagramRefusals}

-- ---- readers
-- these octets are what the datagram writer writes for some fields, or the packet writer in this edition
pub record IsDatagram (octets : List ℕ) : Type 0 where
  pub number : ℕ
  pub packet : List ℕ
  pub kind : Kind
  pub lengths : List ℕ
  pub run : List ℕ
  pub written : datagram_to_write number packet kind lengths run ≡ done octets

pub record IsPacket (edition : Edition) (input : List ℕ) : Type 0 where
  pub kind : packets.PacketKind
  pub value : ℕ
  pub types : List ℕ
  pub lengths : List ℕ
  pub octets : List ℕ
  pub written : packet_to_write edition kind value types lengths octets ≡ done input

-- or what the packet writer writes, with only zeros behind it, within the packet limit
pub record IsRepaired (edition : Edition) (octets : List ℕ) : Type 0 where
  pub packet : List ℕ
  pub zeros : ℕ
  pub is : octets ≡ packet ++ replicate zeros 0
  pub fits : length octets ≤ packet_limit
  pub written : IsPacket edition packet

pub record Readers : Type 0 where
  -- a length: 3 or 1 for its form (rule 3.6)
  pub length : {octets : List ℕ} {r : Result Length Refusal} → LengthRead octets r
      → refusal_in (length_outcome r) ≡ first (length_rows octets)
  -- a length from least to most: then 4 (rule 3.6)
  pub length_within : {least most : ℕ} {octets : List ℕ} {r : Result Length Refusal} → WithinRead least most octets r
      → refusal_in (length_outcome r) ≡ first (within_rows least most octets)
  -- a datagram: 2, then reading order (rule 4.15)
  pub datagram : {octets : List ℕ} {r : Result DatagramRead Refusal} → DatagramReads octets r
      → refusal_in (read_outcome r) ≡ refusal_in (read_datagram octets)
  -- a packet: 15, 4 for the whole packet, then reading order (rule 6.13)
  pub packet : (octet : ℕ) (ending : Ending) (octets : List ℕ) {r : Result PacketRead Refusal} → ReadBy octet ending octets r
      → refusal_in (packet_outcome r) ≡ refusal_in (by_edition octet (λ edition. read_packet edition ending octets))
  -- octets are read as a datagram exactly if they are one, and as a received packet of the named edition exactly if they are one; a
  -- repaired packet may also go on with zeros (rules 6.11 and 6.12). Every slice of octets has values below 256 (`Octets`)
  pub is_datagram : {octets : List ℕ} {r : Result DatagramRead Refusal} → Octets octets → DatagramReads octets r
      → (refusal_in (read_outcome r) ≡ none) ↔ IsDatagram octets
  pub is_packet : (octet : ℕ) (named : Named) → Names octet named → (octets : List ℕ) {r : Result PacketRead Refusal} → Octets octets
      → ReadBy octet Whole octets r
      → (refusal_in (packet_outcome r) ≡ none) ↔ IsPacket (edition_of named) octets
  pub is_repaired : (octet : ℕ) (named : Named) → Names octet named → (octets : List ℕ) {r : Result PacketRead Refusal} → Octets octets
      → ReadBy octet Repaired octets r → (refusal_in (packet_outcome r) ≡ none) ↔ IsRepaired (edition_of named) octets
  -- which packets are refused for which reason, in the edition that the octet names
  pub packet_refusals : (octet : ℕ) (named : Named) → Names octet named → PacketRefusals octet named
  -- 15 for another edition, first, by the packet readers and the packet writer (rule 7.2)
  pub another_edition : AnotherEdition
  -- which datagrams are refused for which reason
  pub datagram_refusals : DatagramRefusals

-- ---- writers
-- refused, a call with this promise leaves the caller's buffer unchanged (rule 2.25)
abbrev pub Unchanged : (List ℕ → List ℕ → Result ℕ Refusal → Type 0) → Type 0
Unchanged promise = (old new : List ℕ) (r : Result ℕ Refusal) (n : Reason)
    → promise old new r → refusal_in (written_outcome r) ≡ some n → new ≡ old

pub record Writers : Type 0 where
  -- the length writer: 4, 13 (rule 3.8)
  pub length : (n : ℕ) {old new : List ℕ} {r : Result ℕ Refusal} → Puts (length_to_write n) old new r
      → refusal_in (written_outcome r) ≡ first (length_writer_rows n ++ room_row (length_octets n) old)
  -- the datagram writer: 4, 15, 4, 13 (rule 4.17)
  pub datagram : (number : ℕ) (packet : List ℕ) (kind : Kind) (lengths run : List ℕ) {old new : List ℕ} {r : Result ℕ Refusal}
      → DatagramWritten number packet kind lengths run old new r
      → refusal_in (written_outcome r)
      ≡ first (datagram_writer_rows packet kind lengths run ++ room_row (datagram_octets (carried_of number packet kind lengths run)) old)
  -- the packet writer, in the edition that the octet names: 4, 15, 12, 14, 4, 13 (rule 6.20)
  pub packet : (octet : ℕ) (named : Named) → Names octet named → (kind : packets.PacketKind) (value : ℕ) (types lengths octets : List ℕ)
      {old new : List ℕ} {r : Result ℕ Refusal} → PacketWritten octet kind value types lengths octets old new r
      → refusal_in (written_outcome r)
      ≡ first
      (packet_writer_rows (edition_of named) kind value types lengths octets
      ++ room_row (packet_octets (edition_of named) kind value types lengths octets) old)
  -- the octets of a line of hexadecimal: 2 for a line that is too long, 15 for one without paired digits, 13 (rules 18.10 and 18.11)
  pub line : (line : List ℕ) {old new : List ℕ} {r : Result ℕ Refusal} → Puts (line_octets line) old new r
      → refusal_in (written_outcome r) ≡ first (line_rows line ++ room_row (octets_in line) old)
  -- a refused write leaves the caller's buffer unchanged (rule 28.2)
  pub length_unchanged : (n : ℕ) → Unchanged (Puts (length_to_write n))
  pub datagram_unchanged : (number : ℕ) (packet : List ℕ) (kind : Kind) (lengths run : List ℕ)
      → Unchanged (DatagramWritten number packet kind lengths run)
  pub packet_unchanged : (octet : ℕ) (kind : packets.PacketKind) (value : ℕ) (types lengths octets : List ℕ)
      → Unchanged (PacketWritten octet kind value types lengths octets)
  pub line_unchanged : (line : List ℕ) → Unchanged (Puts (line_octets line))

-- ---- the receiving session (rules 10.5 and 12.9)
pub record Receiving : Type 0 where
  -- offer: 17, 2, then reading order, then 8 or 9, then 7 (rule 10.5); refused, it returns the session unchanged (rule 28.2)
  pub offer : {s : Session} {octets : List ℕ} {r : Returned (Unit {0})} → OfferOwes s octets r
      → refusal_in (offered_outcome r.answer) ≡ first (offer_rows octets s)
  pub offer_unchanged : {s : Session} {octets : List ℕ} {r : Returned (Unit {0})} {n : Reason} → OfferOwes s octets r
      → refusal_in (offered_outcome r.answer) ≡ some n → r.session ≡ s
  -- release: 17, 16, 10, 13 (rule 12.9); refused, it returns the session unchanged and does not touch the buffer (rule 28.2)
  pub release : {s : Session} {leave : Bool} {old new : List ℕ} {r : Returned Released} → ReleaseOwes s leave old new r
      → refusal_in (released_outcome r.answer) ≡ first (release_rows leave old s)
  pub release_unchanged : {s : Session} {leave : Bool} {old new : List ℕ} {r : Returned Released} {n : Reason}
      → ReleaseOwes s leave old new r
      → refusal_in (released_outcome r.answer) ≡ some n → (r.session ≡ s) × (new ≡ old)

-- ---- solve (rules 14.6 and 14.7). Whether something satisfies the equations is no test with a row in a table, so each answer has its
-- condition. That octets are enough to ask for is in `session_calls` (`SolveOctets`)
pub record SolvingCalls : Type 0 where
  -- 17 exactly outside the ranges
  pub outside : {s : Session} {r : Returned (Unit {0})} → SolveOwes s r
      → (refusal_in (solved_outcome r.answer) ≡ some outside_ranges) ↔ (session_in_ranges s ≡ false)
  -- 23 exactly within them and if nothing satisfies the equations
  pub unsolvable : {s : Session} {r : Returned (Unit {0})} → SolveOwes s r
      → (refusal_in (solved_outcome r.answer) ≡ some no_solution) ↔ ((session_in_ranges s ≡ true) × HasNone s)
  -- no refusal exactly within them and if something does
  pub filled : {s : Session} {r : Returned (Unit {0})} → SolveOwes s r
      → (refusal_in (solved_outcome r.answer) ≡ none) ↔ ((session_in_ranges s ≡ true) × HasSolution s)
  -- refused, it returns the session unchanged (rule 28.2), and its place is 0 (rule 2.30)
  pub unchanged : {s : Session} {r : Returned (Unit {0})} {n : Reason} → SolveOwes s r → refusal_in (solved_outcome r.answer) ≡ some n
      → r.session ≡ s
  pub place : {s : Session} {r : Returned (Unit {0})} → SolveOwes s r → place_in (solved_outcome r.answer) ≡ 0

-- ---- the sending session (rules 15.8 and 15.11)
pub record SendingCalls : Type 0 where
  -- send: 17, 16, 15, 4, 13 (rule 15.8); refused, it returns the session unchanged and does not touch the buffer (rule 15.11)
  pub send : {s : Sender} {settings : Settings} {packet old new : List ℕ} {r : Sent} → Sends s settings packet old new r
      → refusal_in (written_outcome r.answer)
      ≡ first (sender_rows s settings packet ++ room_row (datagram_octets (carried_next settings packet (sending_of s))) old)
  pub send_unchanged : {s : Sender} {settings : Settings} {packet old new : List ℕ} {r : Sent} {n : Reason}
      → Sends s settings packet old new r
      → refusal_in (written_outcome r.answer) ≡ some n → (r.sender ≡ s) × (new ≡ old)

-- ---- places
-- refused, a call with this promise has place 0 (rule 2.30)
abbrev pub Unplaced : (List ℕ → List ℕ → Result ℕ Refusal → Type 0) → Type 0
Unplaced promise = (old new : List ℕ) (r : Result ℕ Refusal) → promise old new r → place_in (written_outcome r) ≡ 0

pub record Places : Type 0 where
  -- the length reader's place: a length is read at the very front (rule 3.9)
  pub length : {octets : List ℕ} {r : Result Length Refusal} → LengthRead octets r → place_in (length_outcome r) ≡ 0
  pub length_within : {least most : ℕ} {octets : List ℕ} {r : Result Length Refusal} → WithinRead least most octets r
      → place_in (length_outcome r) ≡ 0
  -- offer passes on the datagram reader's place; its other refusals, 17 before the reading and 8, 9 and 7 after it, have place 0 (rule
  -- 2.30)
  pub offer : {s : Session} {octets : List ℕ} {r : Returned (Unit {0})} {q : Result DatagramRead Refusal} → OfferOwes s octets r
      → DatagramReads octets q
      → place_in (offered_outcome r.answer) ≡ cond (session_in_ranges s) (place_in (read_outcome q)) 0
  -- refusals that are not met while reading have place 0 (rule 2.30)
  pub release : {s : Session} {leave : Bool} {old new : List ℕ} {r : Returned Released} → ReleaseOwes s leave old new r
      → place_in (released_outcome r.answer) ≡ 0
  pub length_writer : (n : ℕ) → Unplaced (Puts (length_to_write n))
  pub datagram_writer : (number : ℕ) (packet : List ℕ) (kind : Kind) (lengths run : List ℕ)
      → Unplaced (DatagramWritten number packet kind lengths run)
  pub packet_writer : (octet : ℕ) (kind : packets.PacketKind) (value : ℕ) (types lengths octets : List ℕ)
      → Unplaced (PacketWritten octet kind value types lengths octets)
  pub line : (line : List ℕ) → Unplaced (Puts (line_octets line))
  pub send : {s : Sender} {settings : Settings} {packet old new : List ℕ} {r : Sent} → Sends s settings packet old new r
      → place_in (written_outcome r.answer) ≡ 0
  pub joiner_field : {j : Joiner} {type : ℕ} {octets old new : List ℕ} {r : Joined} → FieldOwes j type octets old new r
      → place_in (handed_outcome r.answer) ≡ 0
  pub joiner_lost : {j : Joiner} {r : Joined} → LossOwes j r → place_in (handed_outcome r.answer) ≡ 0
  -- so have those of an image, which is neither a datagram nor a packet
  pub image_writer : (s : Session) → Unplaced (ImageWritten s)
  pub image_reader : {text : List ℕ} {r : Restored} → ImageRead text r → place_in (restored_outcome r) ≡ 0

pub record Demand1 : Type 0 where
  pub readers : Readers
  pub writers : Writers
  pub receiving : Receiving
  -- an offer to a session within its ranges refuses what the datagram reader refuses, for the same reason (rule 10.5)
  pub offer_reads : {s : Session} {octets : List ℕ} {r : Returned (Unit {0})} {q : Result DatagramRead Refusal} {n : Reason}
      → OfferOwes s octets r
      → DatagramReads octets q → session_in_ranges s ≡ true → refusal_in (read_outcome q) ≡ some n
      → refusal_in (offered_outcome r.answer) ≡ some n
  pub solving : SolvingCalls
  pub sending : SendingCalls
  pub places : Places
