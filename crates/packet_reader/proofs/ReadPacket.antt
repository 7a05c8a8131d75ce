-- One law for each answer of `read`, in the words of the code: what its items' readers answered gives the promise. Assumes
-- nothing.
use Rattle.std.proofs.Common.{Result, Ok, Err}
use Prim.Native.Nat.{ℕ, ◌≤◌, ◌<◌}
use mathlib.Core.Path.{◌≡◌, refl, sym, ap, ap₂, ◌∙◌}
use mathlib.Core.Bool.{Bool, true, false, cond}
use mathlib.Core.List.{List}
use lib.ListN.{length, drop}
use native.Mathlib.Omega.{arith}
use borrow.Author.Tests.{lt-ltb, le-ltb}
use Rattle.length.specs.Refusals.{outside_sizes, left_over, wrong_settings}
use Rattle.length.specs.Answers.{Answer, done, refused, refuse, refuse_at, ◌>>=◌, mapped}
use Rattle.length.specs.Promise.{RefusalMade, RefusalPlaced}
use Rattle.length.specs.declared.Refusal.{Refusal}
use Rattle.datagram.specs.Sizes.{packet_limit}
use Rattle.packet.specs.Edition.{edition_of}
use Rattle.packet.specs.Packet.{fields_limit, PacketAnswer, may_follow, read_packet}
use Rattle.format.specs.Places.{Place, edge_at}
use Rattle.packet_laws.specs.Octets.{first_at, count_at, FieldsAnswer, fields_at, end_at, packet_by_octets}
use Rattle.packet.specs.Promise.{PacketTold, packet_outcome, packet_read, padded_fields}
use Rattle.packet_reader.specs.Items.{InPacket, OctetIn, EdgeTold, FirstTold, CountTold, FieldsTold, EndTold, NamedTold}
use Rattle.packet_reader.specs.Items.{outcome, first_outcome, count_outcome, fields_read}
use Rattle.packet.specs.declared.types.Field.{Field}
use Rattle.packet.specs.declared.types.PacketKind.{PacketKind}
use Rattle.packet.specs.declared.types.Named.{Named}
use Rattle.packet.specs.declared.types.Ending.{Ending}
use Rattle.packet.specs.declared.types.PacketRead.{PacketRead}
use Rattle.packet_reader.specs.declared.items.First.{First}
use Rattle.packet_reader.specs.declared.reader.FieldsRead.{FieldsRead}
use Rattle.packet_reader.proofs.ReadPlaces.{edge-is, edge-within}
use Rattle.packet_laws.proofs.Laws.{narrow, first_ends, read_at, rest, rest-is, read-outcome, fields-inside, count-limit, count-within}

-- ---- from the items' answers to the definitions
module _ {named : Named} {s : List ℕ} where
  first-is : {r : Result First Refusal} {x : First} → FirstTold named s r → r ≡ Ok x
      → first_at (edition_of named) s
      ≡ done (record { first = record { kind = x.kind; value = x.value; present = x.present }; octets = x.octets })
  first-is told is = sym told.answer ∙ ap first_outcome is

  pub first-within : {r : Result First Refusal} {x : First} → length s ≤ packet_limit → FirstTold named s r → r ≡ Ok x
      → OctetIn s x.octets
  first-within fits told is = record { few = fits; here = first_ends (edition_of named) s _ (first-is told is) }

module _ {s : List ℕ} {at : ℕ} {p : Bool} {c : Result (ℕ × ℕ) Refusal} {n from : ℕ} (told : CountTold s at p c) (is : c ≡ Ok (n, from)) where
  count-is : count_at s at p ≡ done (record { value = n; next = from })
  count-is = sym told.answer ∙ ap count_outcome is

  pub count-few : n ≤ fields_limit
  count-few = count-limit s at p _ count-is

  pub count-inside : OctetIn s at → InPacket s from
  count-inside first = record { few = first.few; here = count-within s at p _ first.here count-is }

-- fields that were read, from the answer
record AllRead (named : Named) (n : ℕ) (s : List ℕ) (at : ℕ) (r : FieldsRead) : Type 0 where
  fields : List Field
  was : fields_at (edition_of named) n s at ≡ done (record { fields = fields; next = r.next })
  here : r.fields ≡ padded_fields fields

module _ (named : Named) (n : ℕ) (s : List ℕ) (at : ℕ) where
  all_read : (x : FieldsRead) (r : Result FieldsRead Refusal) → FieldsTold named n s at r → r ≡ Ok x → AllRead named n s at x
  all_read x r told is = by (fields_at (edition_of named) n s at) refl told.answer where
    by : (y : Answer FieldsAnswer) → fields_at (edition_of named) n s at ≡ y → r ≡ fields_read y → AllRead named n s at x
    by (done a) e read =
        let same : x ≡ record { fields = padded_fields a.fields; next = a.next } = cc in
        record {
          fields = a.fields;
          was = e ∙ ap (λ (k : ℕ). done (record { fields = a.fields; next = k })) (sym (ap (λ (q : FieldsRead). q.next) same));
          here = ap (λ (q : FieldsRead). q.fields) same;
        }
    by (refused x) e read = let z : ◌≡◌ {A = ℕ} 0 1 = cc in absurd (omega arith)

  fields-refused : (x : Refusal) (r : Result FieldsRead Refusal) → FieldsTold named n s at r → r ≡ Err x
      → fields_at (edition_of named) n s at ≡ refused x
  fields-refused x r told is = by (fields_at (edition_of named) n s at) refl told.answer where
    by : (y : Answer FieldsAnswer) → fields_at (edition_of named) n s at ≡ y → r ≡ fields_read y
        → fields_at (edition_of named) n s at ≡ refused x
    by (done a) e read = let z : ◌≡◌ {A = ℕ} 0 1 = cc in absurd (omega arith)
    by (refused y) e read =
        let same : y ≡ x = cc in
        e ∙ ap (λ (q : Refusal). refused q) same

pub told_of : (named : Named) (e : Ending) (s : List ℕ) (r : Result PacketRead Refusal) (x : Answer PacketAnswer)
    → packet_by_octets (edition_of named) e s ≡ x → r ≡ packet_read x → NamedTold named e s r
told_of named e s r x is image =
    let so = read_at (edition_of named) (narrow named) e s ∙ is in
    record { told = record { answer = ap packet_outcome image ∙ read-outcome x ∙ sym so; whole = image ∙ ap packet_read (sym so) } }

-- ---- the answers of `read`
-- fields that read end inside the octets
pub packet-inside : {named : Named} {s : List ℕ} {n from : ℕ} {all : Result FieldsRead Refusal} {x : FieldsRead} → InPacket s from
    → FieldsTold named n s from all → all ≡ Ok x → InPacket s x.next
packet-inside {named} {s} {n} {from} {all} {x} inside read is =
    let a = all_read named n s from x all read is in
    record { few = inside.few; here = (fields-inside (edition_of named) n s from _ inside.here a.was).next }

-- ---- the end
module _ {s : List ℕ} {p : Place} {r : Result ℕ Refusal} (told : EdgeTold s p r) where
  pub end-spare : {e : Ending} {x : Refusal} → r ≡ Err x → EndTold e s p (Err x)
  unfolding end_at
  end-spare is = record { answer = rw (sym told.answer ∙ ap (outcome (λ (n : ℕ). n)) is) }

  module _ {at : ℕ} {e : Ending} {b : Bool} (is : r ≡ Ok at) (follows : b ≡ may_follow e (rest at s)) where
    pub end-left : {x : Refusal} → b ≡ false → RefusalPlaced left_over at x → EndTold e s p (Err x)
    unfolding end_at
    end-left not_so made = record { answer = rw (edge-is told is, ← rest-is at s, ← follows, not_so, made.answer) }

    pub end-met : b ≡ true → EndTold e s p (Ok tt)
    unfolding end_at
    end-met so = record { answer = rw (edge-is told is, ← rest-is at s, ← follows, so) }

pub ruleset ending = (edge-within, end-spare, end-left, end-met)

-- the end says nothing of the packet's values
end_same : {A : Type 0} (e : Ending) (s : List ℕ) (p : Place) (a : A) → end_at e s p a ≡ mapped (λ (u : Unit {0}). a) (end_at e s p tt)
unfolding end_at
end_same e s p a = by (edge_at s p) where
  tested : {A : Type 0} (b : Bool) (at : ℕ) (a : A)
      → cond b (done a) (refuse_at at left_over) ≡ mapped (λ (u : Unit {0}). a) (cond b (done tt) (refuse_at at left_over))
  tested true at a = refl
  tested false at a = refl

  by : (x : Answer ℕ)
      → ◌>>=◌ x (λ (at : ℕ). cond (may_follow e (drop at s)) (done a) (refuse_at at left_over))
      ≡ mapped (λ (u : Unit {0}). a) (◌>>=◌ x (λ (at : ℕ). cond (may_follow e (drop at s)) (done tt) (refuse_at at left_over)))
  by (done at) = tested (may_follow e (drop at s)) at a
  by (refused r) = refl

module _ {named : Named} {e : Ending} {s : List ℕ} where
  pub packet-over : {x : Refusal} → packet_limit < length s → RefusalMade outside_sizes x → NamedTold named e s (Err x)
  unfolding packet_by_octets
  packet-over {x} over made = told_of named e s (Err x) (refused x) (rw (lt-ltb packet_limit (length s) over, made.answer)) refl

  module _ {f : Result First Refusal} (fits : length s ≤ packet_limit) (told : FirstTold named s f) where
    pub packet-first : {x : Refusal} → f ≡ Err x → NamedTold named e s (Err x)
    unfolding packet_by_octets
    packet-first {x} is =
        told_of named e s (Err x) (refused x) (rw (le-ltb packet_limit (length s) fits, sym told.answer ∙ ap first_outcome is)) refl

    module _ {y : First} {c : Result (ℕ × ℕ) Refusal} (is : f ≡ Ok y) (counted : CountTold s y.octets y.present c) where
      pub packet-count : {x : Refusal} → c ≡ Err x → NamedTold named e s (Err x)
      unfolding packet_by_octets
      packet-count {x} count_is =
          told_of named e s (Err x) (refused x)
          (rw (le-ltb packet_limit (length s) fits, first-is told is, sym counted.answer ∙ ap count_outcome count_is))
          refl

      module _ {n at : ℕ} {all : Result FieldsRead Refusal} (count_is : c ≡ Ok (n, at)) (read : FieldsTold named n s at all) where
        pub packet-fields : {x : Refusal} → all ≡ Err x → NamedTold named e s (Err x)
        unfolding packet_by_octets
        packet-fields {x} ends =
            told_of named e s (Err x) (refused x)
            (rw
            (le-ltb packet_limit (length s) fits, first-is told is, count-is counted count_is, fields-refused named n s at x all read ends))
            refl

        module _ {z : FieldsRead} {d : Result (Unit {0}) Refusal} (next : all ≡ Ok z) (ended : EndTold e s z.next d) where
          pub packet-left : {x : Refusal} → d ≡ Err x → NamedTold named e s (Err x)
          unfolding packet_by_octets
          packet-left {x} end_is =
              let a = all_read named n s at z all read next in
              told_of named e s (Err x) (refused x)
              (rw (le-ltb packet_limit (length s) fits, first-is told is, count-is counted count_is, a.was)
              (end_same e s z.next _ ∙ ap (mapped _) (sym ended.answer ∙ ap (outcome (λ (u : Unit {0}). u)) end_is)))
              refl

          pub packet-is : {u : Unit {0}} → d ≡ Ok u
              → NamedTold named e s (Ok (record { kind = y.kind; value = y.value; count = n; fields = z.fields }))
          unfolding packet_by_octets
          packet-is end_is =
              let a = all_read named n s at z all read next in
              let inside =
              fields-inside (edition_of named) n s at _ (count-inside counted count_is (first-within fits told is)).here a.was
              in
              told_of named e s _ (done (record { kind = y.kind; value = y.value; fields = a.fields }))
              (rw (le-ltb packet_limit (length s) fits, first-is told is, count-is counted count_is, a.was)
              (end_same e s z.next _ ∙ ap (mapped _) (sym ended.answer ∙ ap (outcome (λ (u : Unit {0}). u)) end_is)))
              (ap₂ (λ (k : ℕ) (l : List Field). Ok (record { kind = y.kind; value = y.value; count = k; fields = l })) (sym inside.many) a.here)

-- ---- an octet that names no edition
pub packet-other : {x : Refusal} → RefusalMade wrong_settings x → PacketTold (refuse wrong_settings) (Err x)
packet-other made = record { answer = rw made.answer; whole = rw made.answer }

pub ruleset packets =
    (first-within, count-few, count-inside, packet-inside, packet-over, packet-first, packet-count, packet-fields, packet-left, packet-is)
