-- One law for each answer of the functions that take the data field, if there is one, and the whole packet, in the words of the code.
-- Assumes nothing.
use Rattle.std.proofs.Common.{Result, Ok, Err}
use Prim.Native.Nat.{ℕ, ◌/◌, ◌≤◌, ◌<◌}
use mathlib.Core.Path.{◌≡◌, refl, sym, ap, ap₂, ◌∙◌}
use mathlib.Core.Bool.{Bool, true, false, not, cond}
use mathlib.Core.List.{List, [], map}
use lib.ListN.{length, drop}
use native.Mathlib.Omega.{arith}
use borrow.Author.Tests.{lt-ltb, le-ltb, not-true, not-false}
use Rattle.length.specs.Refusals.{outside_sizes, left_over}
use Rattle.length.specs.Answers.{Answer, done, refused}
use Rattle.length.specs.Promise.{RefusalMade, RefusalPlaced}
use Rattle.length.specs.declared.Refusal.{Refusal}
use Rattle.format.specs.Reading.{Finding, found, stopped}
use Rattle.format.specs.Format.{known}
use Rattle.format.specs.Places.{Place}
use Rattle.datagram.specs.Sizes.{packet_limit}
use Rattle.packet.specs.Edition.{edition_of}
use Rattle.packet.specs.Packet.{Content, field_of, PacketAnswer, may_follow, read_packet}
use Rattle.packet.specs.Packet as description
use Rattle.packet.specs.Promise.{packet_outcome, packet_read, padded_fields}
use Rattle.packet_laws.proofs.Laws.{rest, rest-is, read-outcome}
use Rattle.packet.specs.declared.types.PacketKind.{PacketKind}
use Rattle.packet.specs.declared.types.Ending.{Ending}
use Rattle.packet.specs.declared.types.Field.{Field}
use Rattle.packet.specs.declared.types.Named.{Named}
use Rattle.packet.specs.declared.types.PacketRead.{PacketRead}
use Rattle.packet_reader.specs.Items.{NamedTold}
use Rattle.packet_pencil.specs.Bits.{EdgeTaken, found_as}
use Rattle.packet_pencil.specs.Items.{OctetTaken}
use Rattle.packet_pencil.specs.Fields.{fields_taken, FieldsTaken}
use Rattle.packet_pencil.specs.Packet.{StartTaken, AfterTaken}
use Rattle.packet_pencil.specs.declared.fields.Fields.{Fields}
use Rattle.packet_pencil.specs.declared.whole.First as declared

-- ---- the data field, if there is one
module _ {named : Named} {s : List ℕ} {p : Place} {b : Bool} where
  pub after-data : {r : Result Fields Refusal} → b ≡ true → FieldsTaken named s p r → AfterTaken named b s p r
  after-data is told = record { answer = λ i. rw is (told.answer i) }

  pub after_none : {none : List Field} → b ≡ false → none ≡ padded_fields []
      → AfterTaken named b s p (Ok (record { count = 0; fields = none; next = p }))
  after_none is none = record { answer = λ i. rw (is, none) }

pub ruleset optionals = (after-data, after_none)

-- ---- the packet
-- the data field as the description reads it
abbrev after : Named → Bool → List ℕ → Place → Finding (List Content)
after named b s p = (cond b (description.data_field (edition_of named)) (known [])).read s 0 p

-- contents that were found, from the answer
record Contents (x : Finding (List Content)) (n : ℕ) (p : Place) (fields : List Field) : Type 0 where
  contents : List Content
  was : x ≡ found contents p
  many : n ≡ length (map field_of contents)
  here : fields ≡ padded_fields (map field_of contents)

module _ {named : Named} {b : Bool} {s : List ℕ} {p : Place} {r : Result Fields Refusal} (told : AfterTaken named b s p r) where
  contents-of : {x : Fields} → r ≡ Ok x → Contents (after named b s p) x.count x.next x.fields
  contents-of {x} is = by (after named b s p) refl (told.answer 0) where
    by : (y : Finding (List Content)) → after named b s p ≡ y → r ≡ fields_taken (found_as (map field_of) y)
        → Contents (after named b s p) x.count x.next x.fields
    by (found contents z) e whole =
        let same : x ≡ record {
          count = length (map field_of contents);
          fields = padded_fields (map field_of contents);
          next = z;
        } = cc in
        record {
          contents = contents;
          was = e ∙ ap (λ (k : ℕ). found contents k) (sym (ap (λ (y : Fields). y.next) same));
          many = ap (λ (y : Fields). y.count) same;
          here = ap (λ (y : Fields). y.fields) same;
        }
    by (stopped why) e whole = let z : ◌≡◌ {A = ℕ} 0 1 = cc in absurd (omega arith)

  after-stopped : {x : Refusal} → r ≡ Err x → after named b s p ≡ stopped x
  after-stopped {x} is = by (after named b s p) refl (told.answer 0) where
    by : (y : Finding (List Content)) → after named b s p ≡ y → r ≡ fields_taken (found_as (map field_of) y) → after named b s p ≡ stopped x
    by (found contents z) e whole = let z : ◌≡◌ {A = ℕ} 0 1 = cc in absurd (omega arith)
    by (stopped y) e whole = let why : y ≡ x = cc in e ∙ ap (λ (k : Refusal). stopped k) why

-- what is left from an octet edge on is what is left from its octet on
follows : (e : Ending) {s : List ℕ} {p : Place} {from : ℕ} {t : Bool} → OctetTaken s p from → t ≡ may_follow e (rest from s)
    → may_follow e (drop (p / 8) s) ≡ t
follows e {s} {p} {from} octet test = ap (may_follow e) (sym octet.rest ∙ sym (rest-is from s)) ∙ sym test

module _ {named : Named} {e : Ending} {s : List ℕ} where
  told_of : {r : Result PacketRead Refusal} (x : Answer PacketAnswer) → read_packet (edition_of named) e s ≡ x → r ≡ packet_read x
      → NamedTold named e s r
  told_of x is image =
      record { told = record { answer = ap packet_outcome image ∙ read-outcome x ∙ sym is; whole = image ∙ ap packet_read (sym is) } }

  pub packet-over : {x : Refusal} → packet_limit < length s → RefusalMade outside_sizes x → NamedTold named e s (Err x)
  unfolding read_packet
  packet-over {x} over made = told_of (refused x) (rw (lt-ltb packet_limit (length s) over, made.answer)) refl

  module _ {f : Result declared.First Refusal} (fits : length s ≤ packet_limit) (told : StartTaken named s 0 f) where
    pub packet-start : {x : Refusal} → f ≡ Err x → NamedTold named e s (Err x)
    unfolding read_packet description.whole_packet description.packet
    packet-start {x} is = told_of (refused x) (rw (le-ltb packet_limit (length s) fits, told.answer 0, is)) refl

    module _ {y : declared.First} {g : Result Fields Refusal} (is : f ≡ Ok y) (fields : AfterTaken named y.present s y.next g) where
      pub packet-fields : {x : Refusal} → g ≡ Err x → NamedTold named e s (Err x)
      unfolding read_packet description.whole_packet description.packet
      packet-fields {x} why =
          told_of (refused x) (rw (le-ltb packet_limit (length s) fits, told.answer 0, is, after-stopped fields why)) refl

      module _ {a : Fields} {d : Result ℕ Refusal} (read : g ≡ Ok a) (aligned : EdgeTaken s a.next d) where
        pub packet-edge : {x : Refusal} → d ≡ Err x → NamedTold named e s (Err x)
        unfolding read_packet description.whole_packet description.packet
        packet-edge {x} why =
            let c = contents-of fields read in
            told_of (refused x)
            (rw (le-ltb packet_limit (length s) fits, told.answer 0, is, c.was, aligned.answer 0, why))
            refl

        module _ {z from : ℕ} {t : Bool} (on : d ≡ Ok z) (octet : OctetTaken s z from) (test : t ≡ may_follow e (rest from s)) where
          pub packet-left : {x : Refusal} → not t ≡ true → RefusalPlaced left_over (z / 8) x → NamedTold named e s (Err x)
          unfolding read_packet description.whole_packet description.packet
          packet-left {x} not_so made =
              let c = contents-of fields read in
              let may = follows e octet test ∙ not-true t not_so in
              told_of (refused x)
              (rw (le-ltb packet_limit (length s) fits, told.answer 0, is, c.was, aligned.answer 0, on, may, made.answer))
              refl

          pub packet-is : not t ≡ false
              → NamedTold named e s (Ok (record { kind = y.kind; value = y.value; count = a.count; fields = a.fields }))
          unfolding read_packet description.whole_packet description.packet
          packet-is so =
              let c = contents-of fields read in
              let may = follows e octet test ∙ not-false t so in
              told_of (done (record { kind = y.kind; value = y.value; fields = map field_of c.contents }))
              (rw (le-ltb packet_limit (length s) fits, told.answer 0, is, c.was, aligned.answer 0, on, may))
              (ap₂ (λ (j : ℕ) (l : List Field). Ok (record { kind = y.kind; value = y.value; count = j; fields = l })) c.many c.here)

pub ruleset packets = (packet-over, packet-start, packet-fields, packet-edge, packet-left, packet-is)
