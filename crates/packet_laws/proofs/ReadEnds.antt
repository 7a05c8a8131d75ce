-- Where the items of a packet end: what reads lies inside the octets, and the count is within its limit. Assumes nothing.
use Prim.Native.Nat.{ℕ, zero, suc, ◌+◌, ◌*◌, ◌≤◌}
use mathlib.Core.Path.{◌≡◌, refl, ap}
use mathlib.Core.Bool.{Bool, true, false}
use mathlib.Core.List.{List, [], ◌∷◌}
use lib.ListN.{length, get_or, drop, length-drop}
use native.Mathlib.Omega.{arith}
use Rattle.length.specs.Answers.{Answer, done, refused}
use Rattle.length.proofs.Laws.{within-done}
use Rattle.format.specs.Places.{Place}
use Rattle.packet.specs.Edition.{Edition}
use Rattle.packet.specs.Packet.{fields_least, fields_limit, no_field, PacketAnswer}
use Rattle.packet.specs.Promise.{packet_outcome, packet_read, padded_fields}
use lib.Seq.{take_at}
use Rattle.packet.proofs.Laws.{parts-cons}
use Rattle.packet_laws.specs.Octets.{Count, count_at, FieldAnswer, field_at, FieldsAnswer, fields_at}
use Rattle.packet.specs.declared.types.Field.{Field}
use Rattle.packet_laws.proofs.ReadLaws.{stepped, edge-inside, count-form, header-ends, size-form, FieldForm, bare, full, field-form}

-- ---- where the items of a packet end
-- what holds of a field that reads: its part and the place after it lie inside the octets
pub record FieldInside (s : List ℕ) (f : FieldAnswer) : Type 0 where
  pub part : f.field.start + f.field.size ≤ length s
  pub next : f.next ≤ 8 * length s

pub form-inside : (edition : Edition) (s : List ℕ) (p : Place) (f : FieldAnswer) → FieldForm edition s p f → FieldInside s f
form-inside edition s p f (bare k q head is) =
    let inside = header-ends edition s p _ head in
    rw is (record { part = omega arith; next = inside })
form-inside edition s p f (full k q at n head edges size is) =
    let edge = edge-inside s q at (header-ends edition s p _ head) edges in
    let all : at + 2 + n ≤ length s = omega (arith, (size-form (drop at s) n size).inside, length-drop at s) in
    rw is (record { part = all; next = omega arith })

pub field-inside : (edition : Edition) (s : List ℕ) (p : Place) (f : FieldAnswer) → field_at edition s p ≡ done f → FieldInside s f
field-inside edition s p f e = form-inside edition s p f (field-form edition s p f e)

-- what holds of fields that read
pub record FieldsInside (n : ℕ) (s : List ℕ) (a : FieldsAnswer) : Type 0 where
  pub many : length a.fields ≡ n
  pub next : a.next ≤ 8 * length s
  pub parts : (i : ℕ) → (get_or a.fields i no_field).start + (get_or a.fields i no_field).size ≤ length s

pub fields-inside : (edition : Edition) (n : ℕ) (s : List ℕ) (p : Place) (a : FieldsAnswer) → p ≤ 8 * length s
    → fields_at edition n s p ≡ done a → FieldsInside n s a
unfolding fields_at
fields-inside edition zero s p a inside e =
    let is : a ≡ record { fields = []; next = p } = cc in
    rw is (record { many = refl; next = inside; parts = λ i. omega arith })
fields-inside edition (suc n) s p a inside e =
    let f = stepped (field_at edition s p) _ a e in
    let more = stepped (fields_at edition n s f.value.next) _ a f.gave in
    let is : a ≡ record { fields = f.value.field ∷ more.value.fields; next = more.value.next } = cc more.gave in
    let here = field-inside edition s p f.value f.was in
    let all = fields-inside edition n s f.value.next more.value here.next more.was in
    rw is (record {
      many = ap suc all.many;
      next = all.next;
      parts = parts-cons s f.value.field more.value.fields here.part
          all.parts;
    })

-- a count that reads: at most as many as a packet may have, and the place after it lies inside the octets
module _ (s : List ℕ) (at : ℕ) where
  pub count-limit : (b : Bool) (c : Count) → count_at s at b ≡ done c → c.value ≤ fields_limit
  unfolding count_at
  count-limit true c e =
      let f = count-form s at c e in
      rw f.is (within-done fields_least fields_limit (drop at s) f.length f.reads).high
  count-limit false c e =
      let is : c ≡ record { value = 0; next = 8 * at } = cc in
      omega (arith, ap (λ (x : Count). x.value) is)

  pub count-within : (b : Bool) (c : Count) → at ≤ length s → count_at s at b ≡ done c → c.next ≤ 8 * length s
  unfolding count_at
  count-within true c inside e =
      let f = count-form s at c e in
      let sizes = (within-done fields_least fields_limit (drop at s) f.length f.reads).sizes in
      rw f.is (omega (arith, sizes.inside, length-drop at s))
  count-within false c inside e =
      let is : c ≡ record { value = 0; next = 8 * at } = cc in
      omega (arith, ap (λ (x : Count). x.next) is)

-- ---- the answer's cases are the definition's
pub read-outcome : (x : Answer PacketAnswer) → packet_outcome (packet_read x) ≡ x
unfolding padded_fields
read-outcome (done p) =
    ap (λ (l : List Field). done (record { kind = p.kind; value = p.value; fields = l }))
    (take_at p.fields _ (length p.fields) refl)
read-outcome (refused r) = refl
