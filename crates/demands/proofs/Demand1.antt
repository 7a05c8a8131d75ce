-- Demand 1, call by call: each definition is read row by row against its table. Assumes nothing.
use Rattle.std.proofs.Common.{Option}
use Prim.Native.Nat.{ℕ}
use mathlib.Core.Path.{◌≡◌, refl, sym, ap, ◌∙◌}
use mathlib.Core.List.{List, ◌++◌}
use mathlib.Core.Option.{some}
use native.Mathlib.Omega.{arith}
use Rattle.length.specs.declared.Reason.{Reason}
use Rattle.length.specs.Answers.{Answer, done, refused, fitted}
use Rattle.length.specs.Answers as answers
use Rattle.length.specs.Tables.{first, refusal_in, room_row}
use Rattle.length.specs.Length.{length_octets, length_writer_rows, length_to_write}
use Rattle.length.specs.Promise.{Puts}
use Rattle.length.proofs.Laws.{fitted-first, puts-refusal, size-refusal}
use Rattle.datagram.specs.Write.{carried_of, datagram_octets, datagram_writer_rows, datagram_to_write}
use Rattle.datagram.specs.declared.kind.Kind.{Kind}
use Rattle.packet.specs.Edition.{Edition, edition_of, of_choice}
use Rattle.packet.specs.Write.{packet_octets, packet_writer_rows, packet_to_write}
use Rattle.packet.specs.declared.types.PacketKind as packets
use Rattle.packet.specs.declared.types.Named.{Named}
use Rattle.packet.specs.Promise.{packet_by}
use Rattle.sender.specs.Send.{carried_next}
use Rattle.sender.specs.Sender.{sending_of}
use Rattle.sender.specs.Promise.{sender_rows, to_send, StateAfter}
use Rattle.sender.specs.declared.Sender.{Sender}
use Rattle.sender.specs.declared.Settings.{Settings}
use Rattle.line.specs.Hex.{octets_in, line_rows, line_octets}
use Rattle.demands.specs.Common.NamedEdition.{Names}
use Rattle.demands.specs.Demand1.Demand1 as demand
use Rattle.demands.specs.Demand1.Demand1.{Unchanged, Writers, Demand1}
use Rattle.demands.proofs.OfferReads.{offer-reads}
use Rattle.demands.proofs.RefusedReads.{readers}
use Rattle.demands.proofs.RefusedCalls.{receiving}
use Rattle.demands.proofs.RefusedSolve.{solving}
use Rattle.demands.proofs.RefusalPlaces.{places}

-- ---- writers: each follows from its table
length-writer : (n : ℕ) (old : List ℕ)
    → refusal_in (fitted (length_to_write n) old) ≡ first (length_writer_rows n ++ room_row (length_octets n) old)
unfolding length_to_write
length-writer n old = fitted-first (length_writer_rows n) (length_octets n) old

datagram-writer : (number : ℕ) (packet : List ℕ) (kind : Kind) (lengths run old : List ℕ)
    → refusal_in (fitted (datagram_to_write number packet kind lengths run) old)
    ≡ first (datagram_writer_rows packet kind lengths run ++ room_row (datagram_octets (carried_of number packet kind lengths run)) old)
unfolding datagram_to_write
datagram-writer number packet kind lengths run old =
    fitted-first (datagram_writer_rows packet kind lengths run) (datagram_octets (carried_of number packet kind lengths run)) old

packet-writer : (edition : Edition) (kind : packets.PacketKind) (value : ℕ) (types lengths octets old : List ℕ)
    → refusal_in (fitted (packet_to_write edition kind value types lengths octets) old)
    ≡ first
    (packet_writer_rows edition kind value types lengths octets ++ room_row (packet_octets edition kind value types lengths octets) old)
unfolding packet_to_write
packet-writer edition kind value types lengths octets old =
    fitted-first (packet_writer_rows edition kind value types lengths octets) (packet_octets edition kind value types lengths octets) old

-- of an octet that names an edition
packet-by : (octet : ℕ) (named : Named) → Names octet named → (kind : packets.PacketKind) (value : ℕ) (types lengths octets old : List ℕ)
    → refusal_in (fitted (packet_by octet kind value types lengths octets) old)
    ≡ first
    (packet_writer_rows (edition_of named) kind value types lengths octets
    ++ room_row (packet_octets (edition_of named) kind value types lengths octets) old)
packet-by octet named names kind value types lengths octets old =
    ap (λ (c : Option Named). refusal_in (fitted (of_choice c (λ (e : Edition). packet_to_write e kind value types lengths octets)) old)) names
    ∙ packet-writer (edition_of named) kind value types lengths octets old

line-writer : (line old : List ℕ) → refusal_in (fitted (line_octets line) old) ≡ first (line_rows line ++ room_row (octets_in line) old)
unfolding line_octets
line-writer line old = fitted-first (line_rows line) (octets_in line) old

-- what a refusal leaves of a lent buffer
over-refused : (w : Answer (List ℕ)) (old : List ℕ) (n : Reason) → refusal_in w ≡ some n → answers.over w old ≡ old
over-refused (done x) old n e = let z : ◌≡◌ {A = ℕ} 0 1 = cc in absurd (omega arith)
over-refused (refused why) old n e = refl

pub puts-unchanged : (w : Answer (List ℕ)) → Unchanged (Puts w)
puts-unchanged w old new r n p e = p.lent ∙ over-refused (fitted w old) old n (sym (puts-refusal p) ∙ e)

writers : Writers
writers =
    record {
      length = λ n {old} p. puts-refusal p ∙ length-writer n old;
      datagram = λ number packet kind lengths run {old} p. puts-refusal p ∙ datagram-writer number packet kind lengths run old;
      packet = λ octet named names kind value types lengths octets {old} p.
          puts-refusal p ∙ packet-by octet named names kind value types lengths octets old;
      line = λ line {old} p. puts-refusal p ∙ line-writer line old;
      length_unchanged = λ n. puts-unchanged (length_to_write n);
      datagram_unchanged = λ number packet kind lengths run. puts-unchanged (datagram_to_write number packet kind lengths run);
      packet_unchanged = λ octet kind value types lengths octets. puts-unchanged (packet_by octet kind value types lengths octets);
      line_unchanged = λ line. puts-unchanged (line_octets line);
    }

-- ---- send
send_rows : (s : Sender) (settings : Settings) (packet old : List ℕ)
    → refusal_in (fitted (to_send s settings packet) old)
    ≡ first (sender_rows s settings packet ++ room_row (datagram_octets (carried_next settings packet (sending_of s))) old)
unfolding to_send
send_rows s settings packet old =
    fitted-first (sender_rows s settings packet) (datagram_octets (carried_next settings packet (sending_of s))) old

send-refused : (a : Answer (List ℕ)) (s t : Sender) (packet : List ℕ) (n : Reason) → refusal_in a ≡ some n → StateAfter a s packet t → t ≡ s
send-refused (done x) s t packet n e state = let z : ◌≡◌ {A = ℕ} 0 1 = cc in absurd (omega arith)
send-refused (refused why) s t packet n e state = state

sending : demand.SendingCalls
sending =
    record {
      send = λ {s} {settings} {packet} {old} p.
          ap refusal_in p.answer ∙ size-refusal (fitted (to_send s settings packet) old) ∙ send_rows s settings packet old;
      send_unchanged = λ {s} {settings} {packet} {old} {new} {r} {n} p e.
          let why : refusal_in (fitted (to_send s settings packet) old) ≡ some n =
          sym (ap refusal_in p.answer ∙ size-refusal (fitted (to_send s settings packet) old)) ∙ e in (
            send-refused (fitted (to_send s settings packet) old) s r.sender packet n why p.state,
            p.lent ∙ over-refused (fitted (to_send s settings packet) old) old n why,
          );
    }

pub demand-1 : Demand1
demand-1 =
    record {
      readers = readers;
      writers = writers;
      receiving = receiving;
      offer_reads = offer-reads;
      solving = solving;
      sending = sending;
      places = places;
    }
