-- The loop over the fields, one turn: the fields that are left, after those that were taken, are all of them. And one law for each
-- answer of the functions that take them. Assumes nothing.
use Rattle.std.proofs.Common.{Result, Ok, Err}
use Prim.Native.Nat.{ℕ, suc, ◌+◌, ◌-◌, ◌≤◌, ◌<◌}
use mathlib.Core.Path.{◌≡◌, refl, sym, ap, ap₂, ◌∙◌}
use mathlib.Core.List.{List, [], ◌∷◌, ◌++◌, map, append_assoc, append-nil}
use lib.ListN.{length, set, length-append}
use native.Mathlib.Omega.{arith}
use Rattle.length.specs.declared.Refusal.{Refusal}
use Rattle.format.specs.Reading.{Finding, found, stopped, and_then}
use Rattle.format.specs.Reading as reading
use Rattle.format.specs.Places.{Place}
use Rattle.packet.specs.Edition.{edition_of}
use Rattle.packet.specs.Packet.{Content, field_of, fields_limit}
use Rattle.packet.specs.Packet as description
use Rattle.packet.specs.Promise.{padded_fields}
use Rattle.packet.specs.declared.types.Field.{Field}
use Rattle.packet.specs.declared.types.Named.{Named}
use Rattle.packet_reader.proofs.Laws.{set-padded}
use Rattle.packet_pencil.specs.Bits.{found_as, finding}
use Rattle.packet_pencil.specs.Items.{CountTaken}
use Rattle.packet_pencil.specs.Fields.{FieldTaken, field_found, fields_found, fields_taken, SequenceTaken, FieldsTaken}
use Rattle.packet_pencil.specs.declared.fields.Fields.{Fields}

-- ---- fields before those that follow
abbrev after : List Field → Finding (List Field) → Finding (List Field)
after pre x = found_as (λ (l : List Field). pre ++ l) x

after_none : (x : Finding (List Field)) → x ≡ after [] x
after_none (found l p) = refl
after_none (stopped r) = refl

after-after : (pre more : List Field) (x : Finding (List Field)) → after pre (after more x) ≡ after (pre ++ more) x
after-after pre more (found l p) = ap (λ (k : List Field). found k p) (sym (append_assoc pre more l))
after-after pre more (stopped r) = refl

-- one field more, and those that follow it
fields-step : (named : Named) (n : ℕ) (s : List ℕ) (i p : ℕ) (f : Field) (q : ℕ) → field_found named s i p ≡ found f q
    → fields_found named (suc n) s i p ≡ after (f ∷ []) (fields_found named n s i q)
unfolding reading.sequence_of
fields-step named n s i p f q is = by ((description.field (edition_of named)).read s i p) refl is where
  more : (c : Content) (y : Finding (List Content))
      → found_as (map field_of) (and_then {B = List Content} y (λ l z. found (c ∷ l) z)) ≡ after (field_of c ∷ []) (found_as (map field_of) y)
  more c (found l z) = refl
  more c (stopped r) = refl

  by : (x : Finding Content) → (description.field (edition_of named)).read s i p ≡ x → found_as field_of x ≡ found f q
      → fields_found named (suc n) s i p ≡ after (f ∷ []) (fields_found named n s i q)
  by (found c z) e same =
      let one : field_of c ≡ f = cc in
      let at : z ≡ q = cc in
      rw e (more c (reading.sequence_of n (description.field (edition_of named)).read s i z))
      ∙ ap₂ (λ (g : Field) (k : ℕ). after (g ∷ []) (fields_found named n s i k)) one at
  by (stopped r) e same = let z : ◌≡◌ {A = ℕ} 0 1 = cc in absurd (omega arith)

fields-stop : (named : Named) (n : ℕ) (s : List ℕ) (i p : ℕ) (x : Refusal) → field_found named s i p ≡ stopped x
    → fields_found named (suc n) s i p ≡ stopped x
unfolding reading.sequence_of
fields-stop named n s i p x is = by ((description.field (edition_of named)).read s i p) refl is where
  by : (y : Finding Content) → (description.field (edition_of named)).read s i p ≡ y → found_as field_of y ≡ stopped x
      → fields_found named (suc n) s i p ≡ stopped x
  by (found c z) e same = let z : ◌≡◌ {A = ℕ} 0 1 = cc in absurd (omega arith)
  by (stopped r) e same = let why : r ≡ x = cc in rw e (ap (λ (k : Refusal). stopped k) why)

-- ---- the loop
pub record Going (named : Named) (s : List ℕ) (from : Place) (count : ℕ) (fields : List Field) (p k : ℕ) : Type 0 where
  pub few : k ≤ count
  pub pre : List Field
  pub has : length pre ≡ k
  pub here : fields ≡ padded_fields pre
  pub whole : (i : ℕ) → fields_found named count s i from ≡ after pre (fields_found named (count - k) s i p)

module _ {named : Named} {s : List ℕ} {from : Place} {count : ℕ} where
  pub going_start : {fields : List Field} → fields ≡ padded_fields [] → Going named s from count fields from 0
  going_start here =
      let all : count ≡ count - 0 = omega arith in
      record {
        few = omega arith;
        pre = [];
        has = refl;
        here = here;
        whole = λ i. after_none (fields_found named count s i from) ∙ ap (λ (n : ℕ). after [] (fields_found named n s i from)) all;
      }

  module _ {fields : List Field} {p k : ℕ} (g : Going named s from count fields p k) where
    pub going_done : count ≤ k → SequenceTaken named count s from (Ok (record { count = count; fields = fields; next = p }))
    unfolding reading.sequence_of
    going_done none =
        let left : count - k ≡ 0 = omega arith in
        let many : length g.pre ≡ count = g.has ∙ omega (arith, g.few) in
        let is : (i : ℕ) → fields_found named count s i from ≡ found g.pre p
        = λ i. g.whole i ∙ ap (λ (n : ℕ). after g.pre (fields_found named n s i p)) left
        ∙ ap (λ (l : List Field). found l p) (append-nil g.pre) in
        record { answer = λ i. rw (is i, many, ← g.here) }

    module _ {r : Result (Field × ℕ) Refusal} (more : k < count) (told : FieldTaken named s p r) where
      -- the field that is taken now, and those after it
      next_of : (i : ℕ) → fields_found named count s i from ≡ after g.pre (fields_found named (suc (count - (k + 1))) s i p)
      next_of i =
          let left : count - k ≡ suc (count - (k + 1)) = omega arith in
          g.whole i ∙ ap (λ (n : ℕ). after g.pre (fields_found named n s i p)) left

      pub going-refused : {x : Refusal} → r ≡ Err x → SequenceTaken named count s from (Err x)
      going-refused {x} is =
          record {
            answer =
                λ i.
                ap fields_taken
                (sym (next_of i ∙ ap (after g.pre) (fields-stop named (count - (k + 1)) s i p x (told.answer i ∙ ap finding is))));
          }

      pub going-turn : {f : Field} {q : ℕ} → count ≤ fields_limit → r ≡ Ok (f, q) → Going named s from count (set fields k f) q (k + 1)
      going-turn {f} {q} limit is =
          record {
            few = omega arith;
            pre = g.pre ++ f ∷ [];
            has = length-append g.pre (f ∷ []) ∙ ap (λ (n : ℕ). n + 1) g.has;
            here = ap (λ (l : List Field). set l k f) g.here ∙ set-padded g.pre f k g.has (omega arith);
            whole =
                λ i.
                next_of i
                ∙ ap (after g.pre) (fields-step named (count - (k + 1)) s i p f q (told.answer i ∙ ap finding is))
                ∙ after-after g.pre (f ∷ []) (fields_found named (count - (k + 1)) s i q);
          }

pub ruleset goings = (going_start, going-turn, going-refused, going_done)

-- ---- the count, and so many fields
behind-count : (n : ℕ) (x : Finding (List Content))
    → found_as (map field_of)
    (and_then {B = List Content} (and_then {B = ℕ × List Content} x (λ l z. found (n, l) z)) (λ a z. found a.1 z))
    ≡ found_as (map field_of) x
behind-count n (found l z) = refl
behind-count n (stopped r) = refl

module _ {named : Named} {s : List ℕ} {p : Place} {n : Result (ℕ × ℕ) Refusal} (told : CountTaken s p n) where
  pub fields-refused : {x : Refusal} → n ≡ Err x → FieldsTaken named s p (Err x)
  unfolding description.data_field
  fields-refused is = record { answer = λ i. rw (told.answer i, is) }

  module _ {k q : ℕ} (is : n ≡ Ok (k, q)) where
    pub fields_read : {r : Result Fields Refusal} → SequenceTaken named k s q r → FieldsTaken named s p r
    unfolding description.data_field
    fields_read all =
        let is : (i : ℕ) → found_as (map field_of) ((description.data_field (edition_of named)).read s i p) ≡ fields_found named k s i q
        = λ i. rw (told.answer i, is) (behind-count k (reading.sequence_of k (description.field (edition_of named)).read s i q)) in
        record { answer = λ i. (all).answer i ∙ ap fields_taken (sym (is i)) }

pub fields-few : {s : List ℕ} {p : Place} {n : Result (ℕ × ℕ) Refusal} {k q : ℕ} → CountTaken s p n → n ≡ Ok (k, q) → k ≤ fields_limit
fields-few {k = k} told is = let low : k < 1 + fields_limit = rw is at told.small in omega arith

pub ruleset counted = (fields-refused, fields-few, fields_read)
