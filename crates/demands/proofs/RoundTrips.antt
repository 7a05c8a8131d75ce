-- The round trips over the promises: what a writer left at the front of the lent buffer is what its definition gives, what a
-- reader answered is what its definition reads, and each layer's two definitions agree. Assumes nothing.
use Rattle.std.proofs.Common.{Result, Ok, Err, Option, Some, None}
use Prim.Native.Nat.{ℕ, ◌-◌, ◌≤◌}
use mathlib.Core.Path.{◌≡◌, refl, sym, ap, ◌∙◌}
use mathlib.Core.List.{List, [], ◌++◌, map}
use lib.ListN.{length, take, drop, replicate, length-map}
use lib.Seq.{take-append_seam, drop-append_seam, take_at, length-take-le}
use lib.Dec.{leb, ltb}
use native.Mathlib.Omega.{arith}
use borrow.Author.Tests.{le-leb, le-ltb, ltb-false}
use Rattle.length.specs.declared.Refusal.{Refusal}
use Rattle.length.specs.Tables.{unless}
use Rattle.length.specs.Refusals.{no_room, outside_sizes, wrong_settings}
use Rattle.length.specs.Answers.{Answer, done, refused, refuse, LengthAnswer, length_outcome, written_outcome, fitted, size_of}
use Rattle.length.specs.Length.{length_at, length_octets, length_limit, length_writer_rows, length_to_write}
use Rattle.length.specs.Promise.{Puts}
use Rattle.length.proofs.Claims as lengths
use Rattle.length.proofs.Laws.{value_read, sizes-read, cond-met, unless-past, unless-done}
use Rattle.datagram.specs.Sizes.{spares_limit}
use Rattle.datagram.specs.Carried.{Carried}
use Rattle.datagram.specs.Read.{DatagramParts, octets_of, read_datagram, carried_by}
use Rattle.datagram.specs.Write.{extra_of}
use Rattle.datagram.specs.Promise.{DatagramReads, datagram_read, read_outcome, padded_parts, nowhere}
use Rattle.datagram.specs.Claims as datagram_claims
use Rattle.datagram.specs.declared.kind.Kind.{Kind}
use Rattle.datagram.specs.declared.kind.Kind.TheVariants as kind
use Rattle.datagram.specs.declared.reader.DatagramRead.{DatagramRead}
use Rattle.datagram.proofs.Claims as datagrams
use Rattle.packet.specs.Edition.{Edition, edition_of, choice_of, of_choice, by_edition}
use Rattle.packet.specs.Packet.{all_data, fields_limit, no_field, PacketAnswer, read_packet}
use Rattle.packet.specs.Write.{packet_to_write}
use Rattle.packet.specs.Promise as packet_promise
use Rattle.packet.specs.Promise.{PacketTold, packet_read, padded_fields}
use Rattle.packet.specs.Claims as packet_claims
use Rattle.packet.specs.declared.types.PacketKind as packets
use Rattle.packet.specs.declared.types.Named.{Named}
use Rattle.packet.specs.declared.types.Field.{Field}
use Rattle.packet.specs.declared.types.Ending.{Ending}
use Rattle.packet.specs.declared.types.Ending.TheVariants.{Whole, Repaired}
use Rattle.packet.specs.declared.types.PacketRead.{PacketRead}
use Rattle.packet.proofs.Claims as packet_proofs
use Rattle.sender.proofs.Laws.{size-done}
use Rattle.sender.proofs.Claims as sending
use Rattle.demands.specs.Common.NamedEdition.{Names}
use Rattle.demands.specs.Demand2.RoundTrips.{WrittenBack, LengthTrips, DatagramSame, DatagramTrips, PacketSame, PacketTrips}
use Rattle.demands.specs.Demand2.RoundTrips.{SendTrips}
use Rattle.demands.specs.Demand2.RoundTrips.{RoundTrips, types_of, sizes_of, data_read}
use Rattle.demands.proofs.NamedEdition.{sound, read_as}

-- ---- what a write says
-- what fitted was to be written
fitted-done : (w : Answer (List ℕ)) (old octets : List ℕ) → fitted w old ≡ done octets → w ≡ done octets
fitted-done (done s) old octets e = (cond-met (leb (length s) (length old)) no_room (done s) octets e).1
fitted-done (refused why) old octets e = e

-- what has room fits
pub done-fitted : (s old : List ℕ) → length s ≤ length old → fitted (done s) old ≡ done s
done-fitted s old room = rw (le-leb (length s) (length old) room)

-- a write that answered n octets left what was to be written
pub puts-octets : {w : Answer (List ℕ)} {old new : List ℕ} {r : Result ℕ Refusal} {n : ℕ} → Puts w old new r → r ≡ Ok n
    → (w ≡ done (take n new)) × (n ≡ length (take n new))
puts-octets {w} {old} {new} {r} {n} puts e =
    let told : done n ≡ size_of (fitted w old) = rw e at puts.answer in
    let t = size-done (fitted w old) told in
    let laid : new ≡ t.0 ++ drop (length t.0) old = rw t.1 at puts.lent in
    let front : take n new ≡ t.0 = rw laid (take_at t.0 (drop (length t.0) old) n (sym t.2)) in
    (rw front (fitted-done w old t.0 t.1), rw front t.2)

octets-told : (r : Result ℕ Refusal) (n : ℕ) → written_outcome r ≡ done n → r ≡ Ok n
octets-told (Ok k) n e = cc
octets-told (Err why) n e = let z : ◌≡◌ {A = ℕ} 0 1 = cc in absurd (omega arith)

-- a write of octets that have room leaves them at the front
pub puts_back : {w : Answer (List ℕ)} {s old new : List ℕ} {r : Result ℕ Refusal} {n : ℕ} → Puts w old new r → w ≡ done s → n ≡ length s
    → n ≤ length old → WrittenBack n s old new r
puts_back {w} {s} {old} {new} {r} {n} puts is long room =
    let fits : fitted w old ≡ done s = rw is (done-fitted s old (omega arith)) in
    let laid : new ≡ s ++ drop (length s) old = rw fits at puts.lent in
    record {
      answer = rw long (octets-told r (length s) (rw fits at puts.answer));
      front = rw (laid, long) (take-append_seam s (drop (length s) old));
      rest = rw (laid, long) (drop-append_seam s (drop (length s) old));
    }

-- ---- lengths
length-done : (n : ℕ) (s : List ℕ) → length_to_write n ≡ done s → (n ≤ length_limit) × (s ≡ length_octets n)
unfolding length_to_write
length-done n s e =
    let t = unless-past (ltb length_limit n) outside_sizes [] (length_octets n) s e in
    (ltb-false length_limit n t.0, unless-done (length_writer_rows n) (length_octets n) s e)

length-small : (n : ℕ) → n ≤ length_limit → length_to_write n ≡ done (length_octets n)
unfolding length_to_write unless
length-small n small = rw (le-ltb length_limit n small)

length-trips : LengthTrips
length-trips =
    record {
      reads_back =
          λ value {old} {new} {w} {n} puts e more {r} read.
          let t = puts-octets puts e in
          let is = length-done value (take n new) t.0 in
          let size : n ≡ length (length_octets value) = t.1 ∙ ap length is.1 in
          lengths.length-told r (Ok (record { value = value; size = n }))
          (read.answer ∙ ap (λ (l : List ℕ). length_at (l ++ more)) is.1 ∙ (lengths.claims).written_reads value more is.0
          ∙ ap (λ (k : ℕ). done (record { value = value; size = k })) (sym size));
      writes_back =
          λ {octets = s} {r} {value} {n} octets read e {old} {new} {w} puts room.
          let a : LengthAnswer = record { value = value; size = n } in
          let is : length_at s ≡ done a = sym read.answer ∙ ap length_outcome e in
          let low = value_read s a octets is in
          let inside = (sizes-read s a is).inside in
          let written = length-small value low ∙ ap done ((lengths.claims).read_writes s a octets is) in
          puts_back puts written (sym (length-take-le n s inside)) room;
    }

-- ---- datagrams
extra-same : (k l : Kind) (xs ys : List (List ℕ)) → extra_of k xs ≡ extra_of l ys → (k ≡ l) × (xs ≡ ys)
extra-same kind.Spares kind.Spares xs ys e = (refl, cc)
extra-same kind.Spares (kind.Parity n) xs ys e = let z : ◌≡◌ {A = ℕ} 0 1 = cc in absurd (omega arith)
extra-same (kind.Parity n) kind.Spares xs ys e = let z : ◌≡◌ {A = ℕ} 0 1 = cc in absurd (omega arith)
extra-same (kind.Parity n) (kind.Parity m) xs ys e =
    let same : n ≡ m = cc in
    (ap (λ (x : ℕ). kind.Parity x) same, cc)

-- what reads as a datagram is told so
same-told : {s : List ℕ} {number : ℕ} {packet : List ℕ} (kind : Kind) {items : List (List ℕ)} {r : Result DatagramRead Refusal}
    → datagram_claims.ReadsAs s (record { number = number; packet = packet; extra = extra_of kind items })
    → DatagramReads s r
    → DatagramSame s number packet kind items r
unfolding carried_by datagram_read padded_parts
same-told {s} {number} {packet} kind {items} {r} reads told =
    let d = reads.parts in
    let whole : r ≡ datagram_read (done d) = told.whole ∙ ap datagram_read reads.read in
    let is = reads.carried in
    let extra = extra-same d.kind kind (map (octets_of s) d.items) items (ap (λ (c : Carried). c.extra) is) in
    let long : length items ≡ length d.items = ap length (sym extra.1) ∙ length-map d.items (octets_of s) in
    let unused = replicate (spares_limit - length d.items) nowhere in
    record {
      newest = d.packet;
      places = d.items ++ unused;
      answer =
          rw (whole, long, ← extra.0)
          (ap (λ (n : ℕ). Ok (record {
            number = n;
            packet = d.packet;
            kind = d.kind;
            count = length d.items;
            items = d.items ++ unused;
          })) (ap (λ (c : Carried). c.number) is));
      packet_same = ap (λ (c : Carried). c.packet) is;
      items_same = rw long (ap (map (octets_of s)) (take-append_seam d.items unused) ∙ extra.1);
      unused = rw long (drop-append_seam d.items unused);
    }

datagram-trips : DatagramTrips
datagram-trips =
    record {
      reads_back =
          λ number packet kind lengths run {old} {new} {w} {n} puts e {r} told.
          same-told kind ((datagrams.claims).written_reads number packet kind lengths run (take n new) (puts-octets puts e).0) told;
      writes_back =
          λ {octets = s} {r} {d} octets told e {old} {new} {w} puts room.
          let parts : DatagramParts = record { number = d.number; packet = d.packet; kind = d.kind; items = take d.count d.items } in
          let is : read_datagram s ≡ done parts = sym told.answer ∙ ap read_outcome e in
          puts_back puts ((datagrams.claims).read_writes s parts octets is) refl room;
    }

-- ---- packets
packet-told : {edition : Edition} {ending : Ending} {s : List ℕ} {kind : packets.PacketKind} {value : ℕ} {types lengths octets : List ℕ}
    {r : Result PacketRead Refusal} → packet_claims.PacketReadsAs edition ending s kind value types lengths octets
    → PacketTold (read_packet edition ending s) r
    → PacketSame s kind value types lengths octets r
unfolding padded_fields
packet-told {edition} {ending} {s} {kind} {value} {types} {lengths} {octets} {r} reads told =
    let p = reads.packet in
    let whole : r ≡ packet_read (done p) = told.whole ∙ ap packet_read reads.reads in
    let long : length types ≡ length p.fields = ap length (sym reads.types_same) ∙ length-map p.fields (λ (f : Field). f.kind) in
    let unused = replicate (fields_limit - length p.fields) no_field in
    let front = take-append_seam p.fields unused in
    record {
      fields = padded_fields p.fields;
      answer = rw (whole, long, ← reads.kind_same, ← reads.value_same) refl;
      types_same = rw long (ap (map (λ (f : Field). f.kind)) front ∙ reads.types_same);
      lengths_same = rw long (ap (map (λ (f : Field). f.size)) front ∙ reads.lengths_same);
      octets_same = rw long (ap (all_data s) front ∙ reads.octets_same);
      unused = rw long (drop-append_seam p.fields unused);
    }

-- a call that is not refused names an edition
chosen : {A : Type 0} (octet : ℕ) (answer : Edition → Answer A) (a : A) → by_edition octet answer ≡ done a
    → (named : Named) × Names octet named × (answer (edition_of named) ≡ done a)
chosen {A} octet answer a e = by (choice_of octet) refl where
  by : (c : Option Named) → choice_of octet ≡ c → (named : Named) × Names octet named × (answer (edition_of named) ≡ done a)
  by (Some named) is = (named, is, sym (ap (λ (c : Option Named). of_choice c answer) is) ∙ e)
  by None is =
      let clash : refuse wrong_settings ≡ done a = sym (ap (λ (c : Option Named). of_choice c answer) is) ∙ e in
      let z : ◌≡◌ {A = ℕ} 0 1 = cc in
      absurd (omega arith)

packet-trips : PacketTrips
packet-trips =
    record {
      reads_back =
          λ octet kind value types lengths octets {old} {new} {w} {n} puts e {r} told.
          let c = chosen octet _ (take n new) (puts-octets puts e).0 in
          packet-told
          ((packet_proofs.claims).written_reads (edition_of c.0) (sound c.0) kind value types lengths octets (take n new) c.2)
          (read_as octet c.0 Whole (take n new) c.1 told);
      reads_repaired =
          λ octet kind value types lengths octets {old} {new} {w} {n} puts e zeros room {r} told.
          let t = puts-octets puts e in
          let c = chosen octet _ (take n new) t.0 in
          let reads =
          (packet_proofs.claims).repaired_reads (edition_of c.0) (sound c.0) kind value types lengths octets (take n new) zeros
          c.2 (omega (arith, t.1)) in
          packet-told reads (read_as octet c.0 Repaired (take n new ++ replicate zeros 0) c.1 told);
      writes_back =
          λ octet s {r} {p} octets told e {old} {new} {w} puts room.
          let a : PacketAnswer = record { kind = p.kind; value = p.value; fields = take p.count p.fields } in
          let is : by_edition octet (λ (e : Edition). read_packet e Whole s) ≡ done a = sym told.answer ∙ ap packet_promise.packet_outcome e in
          let c = chosen octet (λ (e : Edition). read_packet e Whole s) a is in
          let back = (packet_proofs.claims).read_writes (edition_of c.0) s a octets c.2 in
          let write : Edition → Answer (List ℕ) =
          λ e. packet_to_write e p.kind p.value (types_of p.count p.fields) (sizes_of p.count p.fields) (data_read s p.count p.fields) in
          puts_back puts (ap (λ (x : Option Named). of_choice x write) c.1 ∙ back) refl room;
    }

-- ---- the sending session
send-trips : SendTrips
send-trips =
    record {
      spares =
          λ {s} k {packet} {old} {new} {t} {n} arrays sends e {r} told.
          same-told kind.Spares ((sending.claims).written_right.reads arrays sends e) told;
      messages =
          λ {s} covered count {packet} {old} {new} {t} {n} arrays sends e {r} told.
          same-told (kind.Parity covered) ((sending.claims).written_right.reads arrays sends e) told;
    }

pub round-trips : RoundTrips
round-trips = record { lengths = length-trips; datagrams = datagram-trips; packets = packet-trips; sends = send-trips }
