-- One law for each answer of the functions that take a field's header and a field, in the words of the code. Assumes nothing.
use Rattle.std.proofs.Common.{Result, Ok, Err}
use Prim.Native.Nat.{ℕ, ◌/◌, ◌%◌}
use mathlib.Core.Path.{◌≡◌, refl, sym, ap, ◌∙◌}
use mathlib.Core.Bool.{Bool, true, false, not}
use mathlib.Core.List.{List}
use borrow.Author.Tests.{not-true, not-false}
use Rattle.length.specs.Refusals.{wrong_data}
use Rattle.length.specs.Promise.{RefusalPlaced}
use Rattle.length.specs.declared.Refusal.{Refusal}
use Rattle.format.specs.Reading.{Finding, found, stopped, and_then}
use Rattle.format.specs.Places.{Place}
use Rattle.packet.specs.Edition.{allows, carries, edition_of}
use Rattle.packet.specs.Packet.{Header, Content, right_data, field_of}
use Rattle.packet.specs.Packet as description
use Rattle.packet.specs.declared.types.Field.{Field}
use Rattle.packet.specs.declared.types.Named.{Named}
use Rattle.packet.specs.declared.types.Named.TheVariants.{Old, New}
use Rattle.packet_pencil.specs.Bits.{FlagTaken, found_as}
use Rattle.packet_pencil.specs.Items.{ValueTaken, PartTaken, part_of, part_found}
use Rattle.packet_pencil.specs.Fields.{HeaderTaken, FieldTaken}
use Rattle.packet_pencil.proofs.ReadValues.{narrow-types, value-fits}

-- ---- the header
-- both editions carry data by one rule
one-rule : (named : Named) (kind : ℕ) (present : Bool) → right_data (edition_of named) kind present ≡ allows (carries kind) present
one-rule Old kind present = refl
one-rule New kind present = refl

tested : (named : Named) {k : ℕ} (b : Bool) {t : Bool} → k % 256 ≡ k → t ≡ allows (carries (k % 256)) b
    → right_data (edition_of named) k b ≡ t
tested named {k} b same test = ap (λ (x : ℕ). right_data (edition_of named) x b) (sym same) ∙ one-rule named (k % 256) b ∙ sym test

module _ {named : Named} {s : List ℕ} {p : Place} {m : Result (Bool × ℕ) Refusal} (told : FlagTaken s (p / 8) p m) where
  pub header-flag : {r : Refusal} → m ≡ Err r → HeaderTaken named s p (Err r)
  unfolding description.header
  header-flag is = record { answer = rw (told.answer, is) }

  module _ {b : Bool} {q : ℕ} {n : Result (ℕ × ℕ) Refusal} (is : m ≡ Ok (b, q)) (type : ValueTaken (edition_of named).types s (p / 8) q n) where
    pub header-type : {r : Refusal} → n ≡ Err r → HeaderTaken named s p (Err r)
    unfolding description.header
    header-type why = record { answer = rw (told.answer, is, type.answer, why) }

    module _ {k z : ℕ} {t : Bool} (kind : n ≡ Ok (k, z)) (test : t ≡ allows (carries (k % 256)) b) where
      pub header-wrong : {r : Refusal} → t ≡ false → RefusalPlaced wrong_data (p / 8) r → HeaderTaken named s p (Err r)
      unfolding description.header
      header-wrong wrong made =
          let right = tested named b (value-fits (narrow-types named) type kind) test in
          record { answer = rw (told.answer, is, type.answer, kind, right ∙ wrong, made.answer) }

      pub header-found : t ≡ true → HeaderTaken named s p (Ok (k % 256, b, z))
      unfolding description.header
      header-found right =
          let same = value-fits (narrow-types named) type kind in
          record { answer = rw (same, told.answer, is, type.answer, kind, tested named b same test ∙ right) }

pub ruleset headers = (header-flag, header-type, header-wrong, header-found)

-- ---- a field
-- a field of the type k, from its data
abbrev field_from : ℕ → ℕ × ℕ → Field
field_from k x = record { kind = k; start = x.0; size = x.1 }

with-data : (k : ℕ) (x : Finding (ℕ × List ℕ))
    → found_as field_of
    (and_then {B = Content} (and_then {B = Header × (ℕ × List ℕ)} x (λ y z. found (record { type = k; present = true }, y) z))
    (λ a z. found (record { type = a.0.type; start = a.1.0; octets = a.1.1 }) z))
    ≡ found_as (field_from k) (found_as part_of x)
with-data k (found y z) = refl
with-data k (stopped r) = refl

module _ {named : Named} {s : List ℕ} {p : Place} {h : Result (ℕ × Bool × ℕ) Refusal} (told : HeaderTaken named s p h) where
  pub field-header : {r : Refusal} → h ≡ Err r → FieldTaken named s p (Err r)
  unfolding description.field
  field-header is = record { answer = λ i. rw (told.answer, is) }

  module _ {k q : ℕ} {b : Bool} (is : h ≡ Ok (k, b, q)) where
    pub field-bare : not b ≡ true → FieldTaken named s p (Ok (record { kind = k; start = 0; size = 0 }, q))
    unfolding description.field
    field-bare absent = record { answer = λ i. rw (told.answer, is, not-true b absent) }

    module _ {r : Result (ℕ × ℕ × ℕ) Refusal} (present : not b ≡ false) (read : PartTaken s q r) where
      field_is : (i : ℕ) → found_as field_of ((description.field (edition_of named)).read s i p) ≡ found_as (field_from k) (part_found r)
      unfolding description.field
      field_is i =
          rw (told.answer, is, not-false b present)
          (with-data k ((description.field_data).read s i q) ∙ ap (found_as (field_from k)) (read.answer i))

      pub field-refused : {x : Refusal} → r ≡ Err x → FieldTaken named s p (Err x)
      field-refused why = record { answer = λ i. field_is i ∙ ap (λ (y : Result (ℕ × ℕ × ℕ) Refusal). found_as (field_from k) (part_found y)) why }

      pub field-full : {start size z : ℕ} → r ≡ Ok (start, size, z)
          → FieldTaken named s p (Ok (record { kind = k; start = start; size = size }, z))
      field-full data_is = record { answer = λ i. field_is i ∙ ap (λ (y : Result (ℕ × ℕ × ℕ) Refusal). found_as (field_from k) (part_found y)) data_is }

pub ruleset fields = (field-header, field-bare, field-refused, field-full)
