-- One law for each answer of the functions that take a value of an ENUMERATED type, in the words of the code. Assumes nothing.
use Rattle.std.proofs.Common.{Result, Ok, Err}
use Prim.Native.Nat.{ℕ, ◌+◌, ◌%◌, ◌≤◌, ◌<◌}
use mathlib.Core.Path.{◌≡◌, refl, ap, ◌∙◌}
use mathlib.Core.Logic.{◌≢◌}
use mathlib.Core.Bool.{Bool, true, false, not, cond}
use mathlib.Core.List.{List}
use lib.Dec.{leb}
use native.Mathlib.Omega.{arith}
use borrow.Author.Tests.{lt-ltb, le-ltb, not-true, not-false}
use Rattle.length.specs.Refusals.{not_assigned}
use Rattle.length.specs.Promise.{RefusalPlaced}
use Rattle.length.specs.declared.Refusal.{Refusal}
use Rattle.format.specs.Reading.{Finding, found, stopped, and_then}
use Rattle.format.specs.Format.{Format, known, made, ◌⊳◌}
use Rattle.format.specs.Format as format
use Rattle.format.specs.Places.{Place}
use Rattle.packet.specs.Edition.{many, added_width, edition_of}
use Rattle.packet.specs.Edition as edition
use Rattle.packet.specs.Packet as description
use Rattle.packet_laws.specs.Octets.{Narrow}
use Rattle.packet_laws.proofs.Laws.{narrow}
use Rattle.packet.specs.declared.types.Enumerated.{Enumerated}
use Rattle.packet.specs.declared.types.PacketKind.{PacketKind}
use Rattle.packet.specs.declared.types.Named.{Named}
use Rattle.packet_pencil.specs.Bits.{found_as, BitsTaken, FlagTaken}
use Rattle.packet_pencil.specs.Items.{six, RootTaken, AddedTaken, AdditionTaken, ValueTaken}

-- ---- an octet holds the values of both editions
pub narrow-values : (named : Named) (kind : PacketKind) → Narrow (edition.values (edition_of named) kind)
narrow-values named kind = (narrow named).of_kind kind

pub narrow-types : (named : Named) → Narrow (edition_of named).types
narrow-types named = (narrow named).of_types

module _ {s : List ℕ} {i : ℕ} {p : Place} {e : Enumerated} where
  -- ---- before the extension mark
  module _ {n : Result (ℕ × ℕ) Refusal} (bits : BitsTaken e.width s i p n) where
    pub root-refused : {r : Refusal} → n ≡ Err r → RootTaken e s i p (Err r)
    unfolding description.root
    root-refused is = record { answer = rw (bits.answer, is); small = tt }

    module _ {v q : ℕ} (is : n ≡ Ok (v, q)) where
      pub root-found : v < e.assigned → RootTaken e s i p (Ok (v, q))
      unfolding description.root
      root-found low = record { answer = rw (bits.answer, is, lt-ltb v e.assigned low); small = omega arith }

      pub root-not : {r : Refusal} → e.assigned ≤ v → RefusalPlaced not_assigned i r → RootTaken e s i p (Err r)
      unfolding description.root
      root-not high made = record { answer = rw (bits.answer, is, le-ltb v e.assigned high, made.answer); small = tt }

  -- ---- which of the added values
  module _ {n : Result (ℕ × ℕ) Refusal} (bits : BitsTaken added_width s i p n) where
    pub added-refused : {r : Refusal} → n ≡ Err r → AddedTaken e s i p (Err r)
    added-refused is = record { answer = rw (bits.answer, is); small = tt }

    module _ {v q : ℕ} (is : n ≡ Ok (v, q)) where
      pub added-found : v < e.added → AddedTaken e s i p (Ok ((e.assigned + v), q))
      added-found low = record { answer = rw (bits.answer, is, lt-ltb v e.added low); small = omega arith }

      pub added-not : {r : Refusal} → e.added ≤ v → RefusalPlaced not_assigned i r → AddedTaken e s i p (Err r)
      added-not high made = record { answer = rw (bits.answer, is, le-ltb v e.added high, made.answer); small = tt }

-- ---- after the extension mark
behind-zero : (n : ℕ) (x : Finding ℕ)
    → and_then {B = ℕ}
    (and_then {B = Unit {0} × (Bool × ℕ)} (and_then {B = Bool × ℕ} x (λ v z. found (false, v) z)) (λ y z. found (tt, y) z))
    (λ a z. found (n + a.1.1) z)
    ≡ found_as (λ v. n + v) x
behind-zero n (found v z) = refl
behind-zero n (stopped r) = refl

module _ {s : List ℕ} {i : ℕ} {p : Place} {e : Enumerated} where
  pub addition-none : {r : Refusal} → e.added ≡ 0 → RefusalPlaced not_assigned i r → AdditionTaken e s i p (Err r)
  unfolding description.addition
  addition-none none made = record { answer = rw (le-ltb 0 e.added (omega arith), made.answer); small = tt }

  module _ {m : Result (Bool × ℕ) Refusal} (some : e.added ≢ 0) (told : FlagTaken s i p m) where
    pub addition-flag : {r : Refusal} → m ≡ Err r → AdditionTaken e s i p (Err r)
    unfolding description.addition
    addition-flag is = record { answer = rw (lt-ltb 0 e.added (omega arith), told.answer, is); small = tt }

    module _ {b : Bool} {q : ℕ} (is : m ≡ Ok (b, q)) where
      pub addition-large : {r : Refusal} → b ≡ true → RefusalPlaced not_assigned i r → AdditionTaken e s i p (Err r)
      unfolding description.addition
      addition-large set made =
          record { answer = rw (lt-ltb 0 e.added (omega arith), told.answer, is, set, made.answer); small = tt }

      pub addition-counted : {r : Result (ℕ × ℕ) Refusal} → b ≡ false → AddedTaken e s i q r → AdditionTaken e s i p r
      unfolding description.addition
      addition-counted clear which =
          record {
            answer =
                rw (lt-ltb 0 e.added (omega arith), told.answer, is, clear)
                (behind-zero e.assigned ((six e).read s i q) ∙ which.answer);
            small = which.small;
          }

-- ---- a value
-- as it is read where there is an extension mark, or none
abbrev on_mark : Bool → Enumerated → Format ℕ
on_mark marked e =
    made (λ x. x.1) (λ v. (leb e.assigned v, v))
    (cond marked format.flag (known false)
    ⊳ λ extended. cond extended (description.addition e) (description.root e))

behind-flag : (b : Bool) (x : Finding ℕ)
    → and_then {B = ℕ} (and_then {B = Bool × ℕ} x (λ v z. found (b, v) z)) (λ a z. found a.1 z) ≡ x
behind-flag b (found v z) = refl
behind-flag b (stopped r) = refl

on-mark : (e : Enumerated) (s : List ℕ) (i : ℕ) (p : Place) {b : Bool} → e.extensible ≡ b
    → (description.enumerated e).read s i p ≡ (on_mark b e).read s i p
unfolding description.enumerated
on-mark e s i p is = ap (λ (b : Bool). (on_mark b e).read s i p) is

module _ {s : List ℕ} {i : ℕ} {p : Place} {e : Enumerated} where
  pub value-root : {r : Result (ℕ × ℕ) Refusal} → not e.extensible ≡ true → RootTaken e s i p r → ValueTaken e s i p r
  value-root unmarked root =
      record {
        answer = on-mark e s i p (not-true e.extensible unmarked) ∙ behind-flag false ((description.root e).read s i p) ∙ root.answer;
        small = root.small;
      }

  module _ {m : Result (Bool × ℕ) Refusal} (marked : not e.extensible ≡ false) (told : FlagTaken s i p m) where
    pub value-flag : {r : Refusal} → m ≡ Err r → ValueTaken e s i p (Err r)
    value-flag is = record { answer = on-mark e s i p (not-false e.extensible marked) ∙ rw (told.answer, is); small = tt }

    module _ {b : Bool} {q : ℕ} {r : Result (ℕ × ℕ) Refusal} (is : m ≡ Ok (b, q)) where
      pub value-extended : b ≡ true → AdditionTaken e s i q r → ValueTaken e s i p r
      value-extended set value =
          record {
            answer =
                on-mark e s i p (not-false e.extensible marked)
                ∙ rw (told.answer, is, set) (behind-flag true ((description.addition e).read s i q) ∙ value.answer);
            small = value.small;
          }

      pub value_before : b ≡ false → RootTaken e s i q r → ValueTaken e s i p r
      value_before clear value =
          record {
            answer =
                on-mark e s i p (not-false e.extensible marked)
                ∙ rw (told.answer, is, clear) (behind-flag false ((description.root e).read s i q) ∙ value.answer);
            small = value.small;
          }

pub ruleset roots = (root-refused, root-found, root-not)

pub ruleset additions = (added-refused, added-found, added-not, addition-none, addition-flag, addition-large, addition-counted)

pub ruleset values = (value-root, value-flag, value-extended, value_before)

-- ---- a value of an edition, which an octet holds
pub value_of : {s : List ℕ} {i : ℕ} {p : Place} {r : Result (ℕ × ℕ) Refusal} {e f : Enumerated} → e ≡ f → ValueTaken e s i p r → ValueTaken f s i p r
value_of is told = rw is at told

pub narrow-of : {e f : Enumerated} → e ≡ f → Narrow f → Narrow e
narrow-of is bounds = rw is bounds

pub ruleset editions = (value_of, narrow-of, narrow-values, narrow-types)

pub value-fits : {s : List ℕ} {i : ℕ} {p : Place} {e : Enumerated} {n : Result (ℕ × ℕ) Refusal} {v q : ℕ} → Narrow e → ValueTaken e s i p n
    → n ≡ Ok (v, q)
    → v % 256 ≡ v
value-fits {e = e} {v = v} bounds told is = let low : v < many e = rw is at told.small in omega (arith, bounds.values)
