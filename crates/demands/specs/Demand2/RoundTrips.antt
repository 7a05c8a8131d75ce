-- What is written reads back to the same fields, and what is read as received writes back to the same octets (rule 28.4): whatever a
-- write left in the caller's buffer, whatever a read of that then returns, and the other way round. Statements only.
use Rattle.std.specs.Prelude.{ℕ, ◌+◌, ◌-◌, ◌%◌, ◌≤◌, min, ◌≡◌, length, take, drop, replicate, Result, Ok}
use mathlib.Core.List.{List, ◌++◌, map, flatten}
use Rattle.length.specs.declared.Refusal.{Refusal}
use Rattle.length.specs.Length.{length_to_write}
use Rattle.length.specs.Promise.{LengthRead, Puts}
use Rattle.length.specs.Claims.{Octets}
use Rattle.length.specs.declared.Length.{Length}
use Rattle.datagram.specs.Sizes.{packet_limit, spares_limit}
use Rattle.datagram.specs.Read.{octets_of}
use Rattle.datagram.specs.Write.{cut}
use Rattle.datagram.specs.Promise.{DatagramReads, nowhere}
use Rattle.datagram.specs.declared.kind.Kind.{Kind}
use Rattle.datagram.specs.declared.kind.Kind.TheVariants as kind
use Rattle.datagram.specs.declared.reader.Part.{Part}
use Rattle.datagram.specs.declared.reader.DatagramRead.{DatagramRead}
use Rattle.datagram_writer.specs.Promise.{DatagramWritten}
use Rattle.packet.specs.Packet.{all_data, fields_limit, no_field}
use Rattle.packet.specs.declared.types.PacketKind as packets
use Rattle.packet.specs.declared.types.Field.{Field}
use Rattle.packet.specs.declared.types.Ending.TheVariants.{Whole, Repaired}
use Rattle.packet.specs.declared.types.PacketRead.{PacketRead}
use Rattle.packet.specs.Promise.{PacketWritten, ReadBy}
use Rattle.session.specs.View.{numbers}
use Rattle.sender.specs.Sending.{history_kept}
use Rattle.sender.specs.Carries.{spares_from, messages_from}
use Rattle.sender.specs.Send.{packet_of}
use Rattle.sender.specs.Sender.{sending_of}
use Rattle.sender.specs.Inner.Held.{Arrays}
use Rattle.sender.specs.Promise.{Sends}
use Rattle.sender.specs.declared.Sender.{Sender}
use Rattle.sender.specs.declared.Sent.{Sent}
use Rattle.sender.specs.declared.Settings.TheVariants as settings

-- ---- written back
-- a write returned n: the first n octets of the buffer are `octets`, and the rest is unchanged (rule 2.26)
pub record WrittenBack (n : ℕ) (octets old new : List ℕ) (w : Result ℕ Refusal) : Type 0 where
  pub answer : w ≡ Ok n
  pub front : take n new ≡ octets
  pub rest : drop n new ≡ drop n old

-- ---- lengths
pub record LengthTrips : Type 0 where
  -- a length that was written reads back to the same value and size, whatever follows it (rule 3.7)
  pub reads_back : (value : ℕ) {old new : List ℕ} {w : Result ℕ Refusal} {n : ℕ} → Puts (length_to_write value) old new w → w ≡ Ok n
      → (more : List ℕ) {r : Result Length Refusal} → LengthRead (take n new ++ more) r → r ≡ Ok (record { value = value; size = n })
  -- a length that was read writes back to the same octets
  pub writes_back : {octets : List ℕ} {r : Result Length Refusal} {value n : ℕ} → Octets octets → LengthRead octets r
      → r ≡ Ok (record { value = value; size = n })
      → {old new : List ℕ} {w : Result ℕ Refusal} → Puts (length_to_write value) old new w → n ≤ length old
      → WrittenBack n (take n octets) old new w

-- ---- datagrams
-- a read returned this number, packet, kind (spares, or n), and these spares or messages; the unused places are empty (rule 4.23)
pub record DatagramSame (octets : List ℕ) (number : ℕ) (packet : List ℕ) (kind : Kind) (items : List (List ℕ))
    (r : Result DatagramRead Refusal)
    : Type 0 where
  pub newest : Part
  pub places : List Part
  pub answer : r ≡ Ok (record { number = number; packet = newest; kind = kind; count = length items; items = places })
  pub packet_same : octets_of octets newest ≡ packet
  pub items_same : map (octets_of octets) (take (length items) places) ≡ items
  pub unused : drop (length items) places ≡ replicate (spares_limit - length items) nowhere

-- the spares or messages that were read, as the writer takes them: their lengths, and one run of data (rule 4.17)
abbrev pub lengths_read : ℕ → DatagramRead → List ℕ
lengths_read count r = map (λ (p : Part). p.size) (take count r.items)

abbrev pub run_read : List ℕ → ℕ → DatagramRead → List ℕ
run_read octets count r = flatten (map (octets_of octets) (take count r.items))

-- what was written reads back the same (rule 4.20), and what was read writes back the same (rule 4.21)
pub record DatagramTrips : Type 0 where
  pub reads_back : (number : ℕ) (packet : List ℕ) (kind : Kind) (lengths run : List ℕ) {old new : List ℕ} {w : Result ℕ Refusal} {n : ℕ}
      → DatagramWritten number packet kind lengths run old new w → w ≡ Ok n
      → {r : Result DatagramRead Refusal} → DatagramReads (take n new) r → DatagramSame (take n new) number packet kind (cut lengths run) r
  pub writes_back : {octets : List ℕ} {r : Result DatagramRead Refusal} {d : DatagramRead} → Octets octets → DatagramReads octets r
      → r ≡ Ok d
      → {old new : List ℕ} {w : Result ℕ Refusal}
      → DatagramWritten d.number (octets_of octets d.packet) d.kind (lengths_read d.count d) (run_read octets d.count d) old new w
      → length octets ≤ length old → WrittenBack (length octets) octets old new w

-- ---- packets
-- the fields that were read, as the writer takes them: their types, their lengths, and all their data (rule 6.20)
abbrev pub types_of : ℕ → List Field → List ℕ
types_of count fields = map (λ (f : Field). f.kind) (take count fields)

abbrev pub sizes_of : ℕ → List Field → List ℕ
sizes_of count fields = map (λ (f : Field). f.size) (take count fields)

abbrev pub data_read : List ℕ → ℕ → List Field → List ℕ
data_read octets count fields = all_data octets (take count fields)

-- a read returned this kind and value, and fields of these types and lengths with, one after the other, this data; the unused places are
-- empty (rule 6.27)
pub record PacketSame (input : List ℕ) (kind : packets.PacketKind) (value : ℕ) (types lengths octets : List ℕ)
    (r : Result PacketRead Refusal) : Type 0 where
  pub fields : List Field
  pub answer : r ≡ Ok (record { kind = kind; value = value; count = length types; fields = fields })
  pub types_same : types_of (length types) fields ≡ types
  pub lengths_same : sizes_of (length types) fields ≡ lengths
  pub octets_same : data_read input (length types) fields ≡ octets
  pub unused : drop (length types) fields ≡ replicate (fields_limit - length types) no_field

-- what was written reads back the same (rule 6.24), and what was read as received writes back the same (rule 6.25), in the edition that
-- the caller names at both calls (rule 7.1)
pub record PacketTrips : Type 0 where
  pub reads_back : (octet : ℕ) (kind : packets.PacketKind) (value : ℕ) (types lengths octets : List ℕ)
      {old new : List ℕ} {w : Result ℕ Refusal} {n : ℕ}
      → PacketWritten octet kind value types lengths octets old new w → w ≡ Ok n
      → {r : Result PacketRead Refusal} → ReadBy octet Whole (take n new) r → PacketSame (take n new) kind value types lengths octets r
  -- read as repaired, it may go on with zeros (rule 6.12)
  pub reads_repaired : (octet : ℕ) (kind : packets.PacketKind) (value : ℕ) (types lengths octets : List ℕ)
      {old new : List ℕ} {w : Result ℕ Refusal} {n : ℕ}
      → PacketWritten octet kind value types lengths octets old new w → w ≡ Ok n
      → (zeros : ℕ) → n + zeros ≤ packet_limit → {r : Result PacketRead Refusal} → ReadBy octet Repaired (take n new ++ replicate zeros 0) r
      → PacketSame (take n new ++ replicate zeros 0) kind value types lengths octets r
  pub writes_back : (octet : ℕ) (octets : List ℕ) {r : Result PacketRead Refusal} {p : PacketRead} → Octets octets
      → ReadBy octet Whole octets r
      → r ≡ Ok p → {old new : List ℕ} {w : Result ℕ Refusal}
      → PacketWritten octet p.kind p.value (types_of p.count p.fields) (sizes_of p.count p.fields) (data_read octets p.count p.fields) old new w
      → length octets ≤ length old → WrittenBack (length octets) octets old new w

-- ---- the sending session
-- the packet at a place of a session's history
abbrev pub sent_before : Sender → ℕ → List ℕ
sent_before s = packet_of (sending_of s).history

-- what a send wrote reads back as a datagram with the session's number, that packet, and the spares or messages that the settings ask for
-- (rules 15.2 to 15.7). Every session that the code holds has arrays of the right lengths
pub record SendTrips : Type 0 where
  pub spares : {s : Sender} (k : ℕ) {packet old new : List ℕ} {t : Sent} {n : ℕ} → Arrays s.sizes s.octets
      → Sends s (settings.Spares k) packet old new t → t.answer ≡ Ok n
      → {r : Result DatagramRead Refusal} → DatagramReads (take n new) r
      → DatagramSame (take n new) (s.sent % numbers) packet kind.Spares (spares_from (min k s.sent) (sent_before s) history_kept) r
  pub messages : {s : Sender} (covered count : ℕ) {packet old new : List ℕ} {t : Sent} {n : ℕ} → Arrays s.sizes s.octets
      → Sends s (settings.Parity covered count) packet old new t → t.answer ≡ Ok n
      → {r : Result DatagramRead Refusal} → DatagramReads (take n new) r
      → DatagramSame (take n new) (s.sent % numbers) packet (kind.Parity covered) (messages_from covered count (sent_before s) history_kept) r

pub record RoundTrips : Type 0 where
  pub lengths : LengthTrips
  pub datagrams : DatagramTrips
  pub packets : PacketTrips
  pub sends : SendTrips
