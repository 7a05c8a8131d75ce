-- One law for each answer of the functions that read the first item and a field's header, in the words of the code: the tests that led
-- there give the promise. Assumes nothing.
use Rattle.std.proofs.Common.{Result, Ok, Err}
use Prim.Native.Nat.{ℕ, ◌+◌, ◌*◌, ◌/◌, ◌%◌, ◌≤◌, ◌<◌, ◌^◌}
use mathlib.Core.Path.{◌≡◌, refl, sym, ap, ap₂, subst, ◌∙◌}
use mathlib.Core.Bool.{Bool, true, false, cond}
use mathlib.Core.List.{List}
use lib.ListN.{length}
use lib.Dec.{ltb}
use native.Mathlib.Omega.{arith}
use Rattle.packet_laws.proofs.Laws.{narrow, value-ends, parted-at}
use Rattle.length.specs.Refusals.{wrong_data}
use Rattle.length.specs.Answers.{Answer, done, refused, refuse_at, ◌>>=◌}
use Rattle.length.specs.Promise.{RefusalMade, RefusalPlaced}
use Rattle.length.specs.declared.Refusal.{Refusal}
use Rattle.datagram.specs.Sizes.{packet_limit}
use Rattle.format.specs.Places.{Place, bits_at}
use Rattle.packet.specs.Edition.{values, edition_of, carries, allows}
use Rattle.packet.specs.Packet.{right_fields}
use Rattle.packet_laws.specs.Octets.{bit_set_at, Narrow, Value, value_at, kind_of, first_at, HeaderAnswer, header_at}
use Rattle.packet.specs.declared.types.Enumerated.{Enumerated}
use Rattle.packet.specs.declared.types.PacketKind.{PacketKind}
use Rattle.packet.specs.declared.types.Named.{Named}
use Rattle.packet.specs.declared.types.Named.TheVariants.{Old, New}
use Rattle.packet_reader.specs.Items.{InPacket, NearPacket, Power, BitTold, BitsTold, EdgeTold, outcome, PlainTold, ValueTold}
use Rattle.packet_reader.specs.Items.{value_outcome, after_first, AfterFirst, FirstHere, FirstTold, after_type, AfterType, HeaderTold}
use Rattle.packet_reader.specs.declared.items.First.{First}
use Rattle.packet_reader.specs.declared.items.Header.{Header}
use Rattle.packet_reader.proofs.ReadValues.{value-whole}

-- ---- the first item
-- what follows the value
module _ {s : List ℕ} {k : PacketKind} {v : ℕ} {p : Place} {d : Result ℕ Refusal} (edged : EdgeTold s p d) where
  pub first-spare : {r : Refusal} → d ≡ Err r → AfterFirst s k v p (Err r)
  first-spare stops = record { answer = rw (sym edged.answer ∙ ap (outcome (λ (n : ℕ). n)) stops) }

  module _ {o : ℕ} {b t : Bool} (ends : d ≡ Ok o) (bit : BitTold s 0 b) (test : t ≡ right_fields k b) where
    pub first-wrong : {r : Refusal} → RefusalMade wrong_data r → t ≡ false → AfterFirst s k v p (Err r)
    first-wrong made wrong =
        record { answer = rw (made.answer, sym edged.answer ∙ ap (outcome (λ (n : ℕ). n)) ends, ← bit.answer, ← test, wrong) }

    pub first_read : t ≡ true → AfterFirst s k v p (Ok (record { kind = k; value = v; present = b; octets = o }))
    first_read right = record { answer = rw (sym edged.answer ∙ ap (outcome (λ (n : ℕ). n)) ends, ← bit.answer, ← test, right) }

pub ruleset afters = (first-spare, first-wrong, first_read)

-- the value, by the edition
value-was : (named : Named) (s : List ℕ) (k : PacketKind) (e : Enumerated) (x : Answer Value) → k ≡ kind_of s → e ≡ values (edition_of named) k
    → value_at e 0 s 2 ≡ x
    → first_at (edition_of named) s ≡ ◌>>=◌ x (after_first s k)
unfolding first_at
value-was named s k e x kind is was =
    let here : value_at (values (edition_of named) (kind_of s)) 0 s 2 ≡ x
    = ap (λ (y : Enumerated). value_at y 0 s 2) (sym (is ∙ ap (values (edition_of named)) kind)) ∙ was in
    rw (here, kind)

pub first-near : {s : List ℕ} {k : PacketKind} → FirstHere s k → NearPacket 2 s 2
first-near here = record { few = here.few; near = omega arith }

pub first-narrow : (named : Named) (k : PacketKind) {e : Enumerated} → e ≡ values (edition_of named) k → Narrow e
first-narrow named k is = subst Narrow (sym is) ((narrow named).of_kind k)

-- a place after a value that reads lies inside the octets
pub first-inside : {e : Enumerated} {s : List ℕ} {k : PacketKind} {x : Result (ℕ × ℕ) Refusal} {v n : ℕ} → FirstHere s k → ValueTold e 0 s 2 x
    → x ≡ Ok (v, n) → InPacket s n
first-inside {e} {s} here told is =
    record { few = here.few; here = value-ends e 0 s 2 _ (sym told.answer ∙ ap value_outcome is) }

module _ {named : Named} {s : List ℕ} {k : PacketKind} {e : Enumerated} where
  -- part by part
  module _ {x : Result (ℕ × ℕ) Refusal} (here : FirstHere s k) (is : e ≡ values (edition_of named) k) (told : ValueTold e 0 s 2 x) where
    pub first-refused : {r : Refusal} → x ≡ Err r → FirstTold named s (Err r)
    first-refused at =
        record { answer = sym (value-was named s k e _ here.is is (sym told.answer ∙ ap value_outcome at)) }

    pub first-parts : {v n : ℕ} {r : Result First Refusal} → x ≡ Ok (v, n) → AfterFirst s k v n r → FirstTold named s r
    first-parts at after =
        record { answer = after.answer ∙ sym (value-was named s k e _ here.is is (sym told.answer ∙ ap value_outcome at)) }

  -- at once
  pub first-whole : {w v : ℕ} {r : Result First Refusal} → k ≡ kind_of s → e ≡ values (edition_of named) k → PlainTold e w → 2 + w ≤ 8 * length s
      → BitsTold w s 2 v → v < e.assigned → AfterFirst s k v (2 + w) r → FirstTold named s r
  first-whole {w} {v} kind is plain inside cut known after =
      record { answer = after.answer ∙ sym (value-was named s k e _ kind is (value-whole e w 0 s 2 v plain inside cut.answer known)) }

pub first-here : {s : List ℕ} {k : PacketKind} → length s ≤ packet_limit → k ≡ kind_of s → FirstHere s k
first-here few kind = record { few = few; is = kind }

pub first-at : {s : List ℕ} {p : Place} → length s ≤ packet_limit → p ≤ 8 * length s → InPacket s p
first-at few inside = record { few = few; here = inside }

pub ruleset firsts = (first-near, first-inside, first-refused, first-parts, first-whole, first-here, first-at)

-- ---- a field's header
-- what follows the type
module _ {item k : ℕ} {b t : Bool} {p : Place} (test : t ≡ allows (carries k) b) where
  pub type-wrong : {r : Refusal} → RefusalPlaced wrong_data item r → t ≡ false → AfterType item k b p (Err r)
  type-wrong made wrong = record { answer = rw (made.answer, ← test, wrong) }

  pub type-right : t ≡ true → AfterType item k b p (Ok (record { kind = k; present = b; next = p }))
  type-right right = record { answer = rw (← test, right) }

pub ruleset types = (type-wrong, type-right)

-- both editions have one rule of which types carry data
rule-same : (named : Named) (k : ℕ) → (edition_of named).rule k ≡ carries k
rule-same Old k = refl
rule-same New k = refl

-- the type, by the edition
type-was : (named : Named) (s : List ℕ) (p : Place) (e : Enumerated) (x : Answer Value) → e ≡ (edition_of named).types
    → value_at e (p / 8) s (p + 1) ≡ x
    → header_at (edition_of named) s p ≡ ◌>>=◌ x (λ v. after_type (p / 8) v.value (bit_set_at s p) v.next)
unfolding header_at
type-was named s p e x is was =
    let here : value_at (edition_of named).types (p / 8) s (p + 1) ≡ x
    = ap (λ (y : Enumerated). value_at y (p / 8) s (p + 1)) (sym is) ∙ was in
    rw here (by x) where
      by : (y : Answer Value)
          → ◌>>=◌ {B = HeaderAnswer} y
          (λ v. cond (allows ((edition_of named).rule v.value) (bit_set_at s p))
          (done (record { header = record { type = v.value; present = bit_set_at s p }; next = v.next })) (refuse_at (p / 8) wrong_data))
          ≡ ◌>>=◌ y (λ v. after_type (p / 8) v.value (bit_set_at s p) v.next)
      by (done v) = rw (rule-same named v.value)
      by (refused r) = refl

pub header-near : {s : List ℕ} {p : Place} → InPacket s p → NearPacket 2 s (p + 1)
header-near inside = record { few = inside.few; near = omega (arith, inside.here) }

pub header-narrow : (named : Named) {e : Enumerated} → e ≡ (edition_of named).types → Narrow e
header-narrow named is = subst Narrow (sym is) (narrow named).of_types

module _ {named : Named} {s : List ℕ} {p : Place} {e : Enumerated} (is : e ≡ (edition_of named).types) where
  -- part by part
  module _ {x : Result (ℕ × ℕ) Refusal} (told : ValueTold e (p / 8) s (p + 1) x) where
    pub header_refused : {r : Refusal} → x ≡ Err r → HeaderTold named s p (Err r)
    header_refused at = record { answer = sym (type-was named s p e _ is (sym told.answer ∙ ap value_outcome at)) }

    pub header-parts : {k n : ℕ} {b : Bool} {r : Result Header Refusal} → x ≡ Ok (k, n) → BitTold s p b → AfterType (p / 8) k b n r
        → HeaderTold named s p r
    header-parts {k} {n} {b} at bit after =
        record {
          answer =
              after.answer
              ∙ ap (λ (c : Bool). after_type (p / 8) k c n) bit.answer
              ∙ sym (type-was named s p e _ is (sym told.answer ∙ ap value_outcome at));
        }

  -- at once: the highest bit is for data, the others are the type
  pub header-whole : {w h t : ℕ} {r : Result Header Refusal} → PlainTold e w → p + (w + 1) ≤ 8 * length s → BitsTold (w + 1) s p h → Power w t
      → h % t < e.assigned
      → AfterType (p / 8) (h % t) (ltb 0 (h / 2 ^ w % 2)) (p + (w + 1)) r
      → HeaderTold named s p r
  header-whole {w} {h} {t} plain inside cut values known after =
      let parts = parted-at w s p plain.few inside in
      let bit : ltb 0 (h / 2 ^ w % 2) ≡ bit_set_at s p = ap (λ (x : ℕ). ltb 0 (x / 2 ^ w % 2)) cut.answer ∙ sym parts.first in
      let kind : h % t ≡ bits_at w s (p + 1) = ap₂ (λ (x y : ℕ). x % y) cut.answer values.is ∙ sym parts.others in
      let next : p + (w + 1) ≡ p + 1 + w = omega arith in
      record {
        answer =
            after.answer
            ∙ ap₂ (λ (c : Bool) (n : ℕ). after_type (p / 8) (h % t) c n) bit next
            ∙ sym (type-was named s p e _ is (value-whole e w (p / 8) s (p + 1) (h % t) plain (omega arith) kind known));
      }

pub ruleset headers = (header-near, header_refused, header-parts, header-whole)
