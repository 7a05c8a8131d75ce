-- One law for each answer of the functions that take the start of a packet, in the words of the code. Assumes nothing.
use Rattle.std.proofs.Common.{Result, Ok, Err}
use Prim.Native.Nat.{ℕ, ◌/◌, ◌%◌}
use mathlib.Core.Path.{◌≡◌, refl, sym, ◌∙◌}
use mathlib.Core.Bool.{Bool, true, false}
use mathlib.Core.List.{List}
use Rattle.length.specs.Refusals.{wrong_data}
use Rattle.length.specs.Promise.{RefusalPlaced}
use Rattle.length.specs.declared.Refusal.{Refusal}
use Rattle.format.specs.Reading.{Finding, found, stopped, and_then}
use Rattle.format.specs.Places.{Place}
use Rattle.packet.specs.Edition.{edition_of, values}
use Rattle.packet.specs.Packet.{First, chosen, right_fields}
use Rattle.packet.specs.Packet as description
use Rattle.packet.specs.declared.types.PacketKind.{PacketKind}
use Rattle.packet.specs.declared.types.PacketKind.TheVariants.{Indicator, Data}
use Rattle.packet.specs.declared.types.Named.{Named}
use Rattle.packet_pencil.specs.Bits.{FlagTaken, EdgeTaken, found_as}
use Rattle.packet_pencil.specs.Items.{ValueTaken}
use Rattle.packet_pencil.specs.Packet.{ChosenTaken, TypeTaken, StartTaken, first_with}
use Rattle.packet_pencil.specs.declared.whole.First as declared
use Rattle.packet_pencil.proofs.ReadValues.{narrow-values, value-fits}

-- ---- the value of the kind that was chosen
module _ {named : Named} {s : List ℕ} {i : ℕ} {p : Place} {present is_data : Bool} {n : Result (ℕ × ℕ) Refusal} where
  module _ (is : is_data ≡ true) (told : ValueTaken (edition_of named).kinds s i p n) where
    pub data-refused : {r : Refusal} → n ≡ Err r → ChosenTaken named present is_data s i p (Err r)
    data-refused why = record { answer = rw (is, told.answer, why) }

    pub data-chosen : {v q : ℕ} → n ≡ Ok (v, q) → ChosenTaken named present is_data s i p (Ok (record { kind = Data; value = v % 256; present = present; next = q }))
    data-chosen {v} value =
        let same = value-fits (narrow-values named Data) told value in
        record { answer = rw (is, told.answer, value, same) }

  module _ (is : is_data ≡ false) (told : ValueTaken (edition_of named).indicators s i p n) where
    pub indicator-refused : {r : Refusal} → n ≡ Err r → ChosenTaken named present is_data s i p (Err r)
    indicator-refused why = record { answer = rw (is, told.answer, why) }

    pub indicator-chosen : {v q : ℕ} → n ≡ Ok (v, q)
        → ChosenTaken named present is_data s i p (Ok (record { kind = Indicator; value = v % 256; present = present; next = q }))
    indicator-chosen {v} value =
        let same = value-fits (narrow-values named Indicator) told value in
        record { answer = rw (is, told.answer, value, same) }

pub ruleset choices = (data-refused, data-chosen, indicator-refused, indicator-chosen)

-- ---- Type-of-msg
behind-flags : (b c : Bool) (x : Finding ℕ)
    → and_then {B = First}
    (and_then {B = Bool × (Bool × ℕ)} (and_then {B = Bool × ℕ} x (λ v z. found (c, v) z)) (λ y z. found (b, y) z))
    (λ a z. found (record { kind = chosen a.1.0; value = a.1.1; present = a.0 }) z)
    ≡ found_as (first_with b c) x
behind-flags b c (found v z) = refl
behind-flags b c (stopped r) = refl

module _ {named : Named} {s : List ℕ} {i : ℕ} {p : Place} {m : Result (Bool × ℕ) Refusal} (told : FlagTaken s i p m) where
  pub type-flag : {r : Refusal} → m ≡ Err r → TypeTaken named s i p (Err r)
  unfolding description.type_of_msg
  type-flag is = record { answer = rw (told.answer, is) }

  module _ {b : Bool} {q : ℕ} {n : Result (Bool × ℕ) Refusal} (is : m ≡ Ok (b, q)) (choice : FlagTaken s i q n) where
    pub type-choice : {r : Refusal} → n ≡ Err r → TypeTaken named s i p (Err r)
    unfolding description.type_of_msg
    type-choice why = record { answer = rw (told.answer, is, choice.answer, why) }

    pub type-chosen : {c : Bool} {z : ℕ} {r : Result declared.First Refusal} → n ≡ Ok (c, z) → ChosenTaken named b c s i z r → TypeTaken named s i p r
    unfolding description.type_of_msg
    type-chosen {c} {z} chose value =
        record {
          answer =
              rw (told.answer, is, choice.answer, chose)
              (behind-flags b c ((description.enumerated (values (edition_of named) (chosen c))).read s i z) ∙ value.answer);
        }

pub ruleset types = (type-flag, type-choice, type-chosen)

-- ---- the start
module _ {named : Named} {s : List ℕ} {p : Place} {f : Result declared.First Refusal} (told : TypeTaken named s (p / 8) p f) where
  pub start-type : {r : Refusal} → f ≡ Err r → StartTaken named s p (Err r)
  unfolding description.start
  start-type is = record { answer = λ i. rw (told.answer, is) }

  module _ {x : declared.First} {e : Result ℕ Refusal} (is : f ≡ Ok x) (aligned : EdgeTaken s x.next e) where
    pub start-edge : {r : Refusal} → e ≡ Err r → StartTaken named s p (Err r)
    unfolding description.start
    start-edge why = record { answer = λ i. rw (told.answer, is, aligned.answer (p / 8), why) }

    module _ {z : ℕ} {t : Bool} (on : e ≡ Ok z) (test : t ≡ right_fields x.kind x.present) where
      pub start-wrong : {r : Refusal} → t ≡ false → RefusalPlaced wrong_data (p / 8) r → StartTaken named s p (Err r)
      unfolding description.start
      start-wrong wrong made =
          record { answer = λ i. rw (told.answer, is, aligned.answer (p / 8), on, sym test ∙ wrong, made.answer) }

      pub start-found : t ≡ true → StartTaken named s p (Ok (record { kind = x.kind; value = x.value; present = x.present; next = z }))
      unfolding description.start
      start-found right = record { answer = λ i. rw (told.answer, is, aligned.answer (p / 8), on, sym test ∙ right) }

pub ruleset starts = (start-type, start-edge, start-wrong, start-found)
