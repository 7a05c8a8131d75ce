-- The loop of the packet reader, one turn: the fields that are left to read, put after those that were read, are the fields
-- of the packet. Assumes nothing.
use Rattle.std.proofs.Common.{Result, Ok, Err}
use Prim.Native.Nat.{ℕ, suc, ◌+◌, ◌-◌, ◌≤◌, ◌<◌}
use mathlib.Core.Path.{◌≡◌, refl, sym, ap, ◌∙◌}
use mathlib.Core.List.{List, [], ◌∷◌, ◌++◌, append_assoc, append-nil}
use lib.ListN.{length, set, replicate, length-append}
use lib.Seq.{set_at, append_snoc}
use native.Mathlib.Omega.{arith}
use Rattle.length.specs.Answers.{Answer, done, refused, ◌>>=◌}
use Rattle.length.specs.declared.Refusal.{Refusal}
use Rattle.format.specs.Places.{Place}
use Rattle.packet.specs.Edition.{Edition, edition_of}
use Rattle.packet.specs.declared.types.Named.{Named}
use Rattle.packet.specs.Packet.{fields_limit, no_field}
use Rattle.packet_laws.specs.Octets.{FieldAnswer, field_at, FieldsAnswer, fields_at}
use Rattle.packet.specs.Promise.{padded_fields}
use Rattle.packet_laws.proofs.Laws.{field-inside}
use Rattle.packet_reader.specs.Items.{InPacket, FieldTold, FieldsTold, field_outcome}
use Rattle.packet.specs.declared.types.Field.{Field}

-- ---- fields before those that follow
abbrev pub after : List Field → Answer FieldsAnswer → Answer FieldsAnswer
after pre (done a) = done (record { fields = pre ++ a.fields; next = a.next })
after pre (refused r) = refused r

after_none : (x : Answer FieldsAnswer) → x ≡ after [] x
after_none (done a) = refl
after_none (refused r) = refl

after-after : (pre more : List Field) (x : Answer FieldsAnswer) → after pre (after more x) ≡ after (pre ++ more) x
after-after pre more (done a) = ap (λ (l : List Field). done (record { fields = l; next = a.next }))
    (sym (append_assoc pre more a.fields))
after-after pre more (refused r) = refl

-- one field more, and those that follow it
pub fields-step : (edition : Edition) (n : ℕ) (s : List ℕ) (p : Place) (f : FieldAnswer) → field_at edition s p ≡ done f
    → fields_at edition (suc n) s p ≡ after (f.field ∷ []) (fields_at edition n s f.next)
unfolding fields_at
fields-step edition n s p f e = rw e (all (fields_at edition n s f.next)) where
  all : (x : Answer FieldsAnswer)
      → ◌>>=◌ x (λ (a : FieldsAnswer). done (record { fields = f.field ∷ a.fields; next = a.next })) ≡ after (f.field ∷ []) x
  all (done a) = refl
  all (refused r) = refl

pub fields-stop : (edition : Edition) (n : ℕ) (s : List ℕ) (p : Place) (x : Refusal) → field_at edition s p ≡ refused x
    → fields_at edition (suc n) s p ≡ refused x
unfolding fields_at
fields-stop edition n s p x e = rw e

-- ---- the places
pub set-padded : (pre : List Field) (f : Field) (i : ℕ) → length pre ≡ i → i < fields_limit → set (padded_fields pre) i f ≡ padded_fields (pre ++ f ∷ [])
unfolding padded_fields
set-padded pre f i has few =
    let e : fields_limit - length pre ≡ suc (fields_limit - length (pre ++ f ∷ [])) = omega (arith, length-append pre (f ∷ [])) in
    ap (λ (n : ℕ). set (pre ++ replicate n no_field) i f) e ∙ set_at pre no_field _ f i has ∙ sym (append_snoc pre f _)

-- ---- the loop over the fields
pub record Going (named : Named) (s : List ℕ) (count from : ℕ) (fields : List Field) (p i : ℕ) : Type 0 where
  pub few : i ≤ count
  pub inside : InPacket s p
  pub pre : List Field
  pub has : length pre ≡ i
  pub here : fields ≡ padded_fields pre
  pub whole : fields_at (edition_of named) count s from ≡ after pre (fields_at (edition_of named) (count - i) s p)

module _ {named : Named} {s : List ℕ} {count from : ℕ} where
  pub going_start : {fields : List Field} → InPacket s from → fields ≡ padded_fields [] → Going named s count from fields from 0
  going_start inside here =
      record {
        few = omega arith;
        inside = inside;
        pre = [];
        has = refl;
        here = here;
        whole =
            after_none (fields_at (edition_of named) count s from)
            ∙ ap (λ (n : ℕ). after [] (fields_at (edition_of named) n s from)) (omega arith);
      }

  module _ {fields : List Field} {p i : ℕ} where
    pub going-turn : {r : Result (Field × ℕ) Refusal} {f : Field} {next : ℕ} → Going named s count from fields p i → count ≤ fields_limit → i < count
        → FieldTold named s p r
        → r ≡ Ok (f, next) → Going named s count from (set fields i f) next (i + 1)
    going-turn {r} {f} {next} g limit more told is =
        let e : field_at (edition_of named) s p ≡ done (record { field = f; next = next }) = sym told.answer ∙ ap field_outcome is in
        let n : count - i ≡ suc (count - (i + 1)) = omega arith in
        record {
          few = omega arith;
          inside = record { few = g.inside.few; here = (field-inside (edition_of named) s p _ e).next };
          pre = g.pre ++ f ∷ [];
          has = length-append g.pre (f ∷ []) ∙ ap (λ (k : ℕ). k + 1) g.has;
          here = ap (λ (l : List Field). set l i f) g.here ∙ set-padded g.pre f i g.has (omega arith);
          whole =
              g.whole ∙ ap (λ (k : ℕ). after g.pre (fields_at (edition_of named) k s p)) n
              ∙ ap (after g.pre) (fields-step (edition_of named) (count - (i + 1)) s p (record { field = f; next = next }) e)
              ∙ after-after g.pre (f ∷ []) (fields_at (edition_of named) (count - (i + 1)) s next);
        }

    pub going-refused : {r : Result (Field × ℕ) Refusal} {x : Refusal} → Going named s count from fields p i → i < count
        → FieldTold named s p r → r ≡ Err x → FieldsTold named count s from (Err x)
    going-refused {r} {x} g more told is =
        let e : field_at (edition_of named) s p ≡ refused x = sym told.answer ∙ ap field_outcome is in
        let n : count - i ≡ suc (count - (i + 1)) = omega arith in
        let all : fields_at (edition_of named) count s from ≡ refused x
        = g.whole ∙ ap (λ (k : ℕ). after g.pre (fields_at (edition_of named) k s p)) n
        ∙ ap (after g.pre) (fields-stop (edition_of named) (count - (i + 1)) s p x e) in
        record { answer = rw all }

    pub going_done : Going named s count from fields p i → count ≤ i
        → FieldsTold named count s from (Ok (record { fields = fields; next = p }))
    unfolding fields_at
    going_done g all =
        let e : count - i ≡ 0 = omega (arith, g.few) in
        let w : fields_at (edition_of named) count s from ≡ done (record { fields = g.pre; next = p })
        = g.whole ∙ ap (λ (k : ℕ). after g.pre (fields_at (edition_of named) k s p)) e
        ∙ ap (λ (l : List Field). done (record { fields = l; next = p })) (append-nil g.pre) in
        record { answer = rw (w, ← g.here) }

pub ruleset goings = (going_start, going-turn, going-refused, going_done)
