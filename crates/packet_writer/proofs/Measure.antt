-- What the writer decides before it writes: one law for each answer, in the words of the code; and the size of what is
-- to be written. Assumes nothing.
use Rattle.std.proofs.Common.{Ok, Err}
use Prim.Native.Nat.{ℕ, ◌+◌, ◌-◌, ◌≤◌, ◌<◌}
use mathlib.Core.Path.{◌≡◌, refl, sym, ap, ap₂, ◌∙◌}
use mathlib.Core.Bool.{Bool, true, false, not, ◌&&◌}
use mathlib.Core.List.{List, [], ◌∷◌}
use lib.ListN.{length, get_or, drop, drop_of_length-le}
use lib.Dec.{leb, ltb, eqb}
use native.Mathlib.Omega.{arith}
use borrow.Author.Tests.{lt-ltb, le-ltb, eq-eqb, ne_eqb, not-false}
use Rattle.length.specs.Refusals.{outside_sizes, wrong_settings, not_assigned, wrong_data}
use Rattle.length.specs.Tables.{when, unless}
use Rattle.length.specs.Promise.{RefusalMade}
use Rattle.length.specs.declared.Refusal.{Refusal}
use Rattle.packet.specs.Edition.{many, allows, Edition, values, carries, edition_of}
use Rattle.packet.specs.Packet.{fields_limit, many_values, right_fields, right_data, every}
use Rattle.packet.specs.Write.{with_data, packet_octets, lengths_sum, one_each, all_assigned, right_types, all_right, in_sizes, packet_to_write}
use Rattle.packet_laws.specs.Items.{TypesRight, AllAssigned, AllRight, PacketSized, Measured}
use Rattle.packet.specs.declared.types.Enumerated.{Enumerated}
use Rattle.packet.specs.declared.types.PacketKind.{PacketKind}
use Rattle.packet.specs.declared.types.Named.{Named}
use Rattle.packet.specs.declared.types.Named.TheVariants.{Old, New}
use Rattle.packet.proofs.Laws.{each-length}
use Rattle.packet_laws.proofs.Laws.{drop-next, packet-size, narrow}

-- ---- both of two tests
pub both_left : (a b : Bool) → a ≡ false → false ≡ (a && b)
both_left a b no-a = rw no-a

pub both_right : (a b c : Bool) → a ≡ true → c ≡ b → c ≡ (a && b)
both_right a b c yes-a same = rw (yes-a) same

-- ---- 15
module _ (ts ns d : List ℕ) where
  pub each-not : (length ts ≡ length ns → ⊥) → false ≡ one_each ts ns d
  unfolding one_each
  each-not differ = both_left (eqb (length ts) (length ns)) _ (ne_eqb (length ts) (length ns) differ)

  pub each-is : {m : ℕ} → length ts ≡ length ns → m ≡ lengths_sum ns → eqb m (length d) ≡ one_each ts ns d
  unfolding one_each
  each-is {m} same is =
      both_right (eqb (length ts) (length ns)) (eqb (lengths_sum ns) (length d)) _ (eq-eqb (length ts) (length ns) same)
      (ap (λ (k : ℕ). eqb k (length d)) is)

  pub each_same : {b : Bool} → b ≡ one_each ts ns d → not b ≡ false → length ts ≡ length ns
  each_same {b} is fine = each-length ts ns d (sym is ∙ not-false b fine)

-- ---- which types carry data does not depend on the edition
rule-of : (named : Named) (t : ℕ) (b : Bool) → right_data (edition_of named) t b ≡ allows (carries t) b
rule-of Old t b = refl
rule-of New t b = refl

-- ---- 12
module _ {named : Named} {k : PacketKind} {v : ℕ} {ts : List ℕ} {e : Enumerated} (is : e ≡ values (edition_of named) k) where
  pub assigned-not : {n : ℕ} → n ≡ v → e.assigned + e.added ≤ n → AllAssigned named k v ts (ltb n (e.assigned + e.added))
  unfolding all_assigned
  assigned-not {n} same over =
      let most = many_values (edition_of named) k in
      let above : e.assigned + e.added ≤ v = omega arith in
      record { so = le-ltb n (e.assigned + e.added) over ∙ both_left (ltb v most) _ (le-ltb v most (rw is at above)) }

  pub assigned-is : {types : Enumerated} {n : ℕ} {b : Bool} → n ≡ v → n < e.assigned + e.added → types ≡ (edition_of named).types
      → b ≡ every (λ t. leb t (many types - 1)) ts
      → AllAssigned named k v ts b
  unfolding all_assigned
  assigned-is {types} {n} {b} same known is_types each =
      let most = many_values (edition_of named) k in
      let below : v < e.assigned + e.added = omega arith in
      record { so = both_right (ltb v most) _ b (lt-ltb v most (rw is at below)) (rw is_types at each) }

-- ---- 14
pub record RightLeft (ts ns : List ℕ) (i : ℕ) : Type 0 where
  pub so : (named : Named) → right_types (edition_of named) ts ns ≡ right_types (edition_of named) (drop i ts) (drop i ns)

right-next : (edition : Edition) (ts ns : List ℕ) (i : ℕ) → i < length ts → length ts ≡ length ns
    → right_types edition (drop i ts) (drop i ns) ≡
    (right_data edition (get_or ts i 0) (with_data (get_or ns i 0)) && right_types edition (drop (i + 1) ts) (drop (i + 1) ns))
unfolding right_types
right-next edition ts ns i h same = ap₂ (right_types edition) (drop-next ts i h) (drop-next ns i (omega arith))

pub right-start : {ts ns : List ℕ} → RightLeft ts ns 0
right-start = record { so = λ (named : Named). refl }

module _ {ts ns : List ℕ} {i : ℕ} {b : Bool} (left : RightLeft ts ns i) (same : length ts ≡ length ns) (h : i < length ts)
    (is : b ≡ allows (carries (get_or ts i 0)) (ltb 0 (get_or ns i 0))) where
  -- the field at hand decides, or what is left after it
  right-one : (named : Named)
      → right_types (edition_of named) ts ns ≡ (b && right_types (edition_of named) (drop (i + 1) ts) (drop (i + 1) ns))
  right-one named =
      let t = get_or ts i 0 in
      let e : right_data (edition_of named) (get_or ts i 0) (with_data (get_or ns i 0)) ≡ b
      = rule-of named t (with_data (get_or ns i 0)) ∙ sym is in
      let rest = right_types (edition_of named) (drop (i + 1) ts) (drop (i + 1) ns) in
      left.so named ∙ right-next (edition_of named) ts ns i h same ∙ ap (λ (c : Bool). c && rest) e

  pub right-turn : b ≡ true → RightLeft ts ns (i + 1)
  right-turn fine = record {
    so = λ (named : Named).
        right-one named ∙ ap (λ (c : Bool). c && right_types (edition_of named) (drop (i + 1) ts) (drop (i + 1) ns)) fine;
  }

  pub right-not : b ≡ false → TypesRight ts ns false
  right-not wrong = record {
    so = λ (named : Named). sym (right-one named
        ∙ ap (λ (c : Bool). c && right_types (edition_of named) (drop (i + 1) ts) (drop (i + 1) ns)) wrong);
  }

pub right-done : {ts ns : List ℕ} {i : ℕ} → RightLeft ts ns i → length ts ≤ i → TypesRight ts ns true
unfolding right_types
right-done {ts} {ns} {i} left all = record {
  so = λ (named : Named).
      sym (left.so named ∙ ap (λ (l : List ℕ). right_types (edition_of named) l (drop i ns)) (drop_of_length-le ts all));
}

module _ {named : Named} {k : PacketKind} {ts ns : List ℕ} {b : Bool} (is : b ≡ right_fields k (ltb 0 (length ts))) where
  pub all-not : b ≡ false → AllRight named k ts ns false
  unfolding all_right
  all-not wrong = record { so = both_left (right_fields k (ltb 0 (length ts))) _ (sym is ∙ wrong) }

  pub all-is : {c : Bool} → b ≡ true → TypesRight ts ns c → AllRight named k ts ns c
  unfolding all_right
  all-is {c} right each = record { so = both_right (right_fields k (ltb 0 (length ts))) _ c (sym is ∙ right) (each.so named) }

pub ruleset decided = (
  each-not,
  each-is,
  assigned-not,
  assigned-is,
  right-start,
  right-turn,
  right-not,
  right-done,
  all-not,
  all-is,
)

-- ---- the answers
module _ (named : Named) (k : PacketKind) (v : ℕ) (ts ns d : List ℕ) {each known : Bool} {size : ℕ} (few : length ts ≤ fields_limit)
    (is_each : each ≡ one_each ts ns d) (so : not each ≡ false) (is_known : AllAssigned named k v ts known) (so_known : not known ≡ false)
    (is_size : PacketSized named k v ts ns size) where
  size_is : length (packet_octets (edition_of named) k v ts ns d) ≡ size
  size_is =
      packet-size (edition_of named) (narrow named) k v ts ns d few (sym is_each ∙ not-false each so)
      (sym is_known.so ∙ not-false known so_known)
      ∙ sym is_size.so

  -- where all tests before that of the sizes are passed
  passed : {right fits : Bool} → AllRight named k ts ns right → not right ≡ false → fits ≡ in_sizes ns size
      → packet_to_write (edition_of named) k v ts ns d
      ≡ unless (when (not fits) outside_sizes ∷ []) (packet_octets (edition_of named) k v ts ns d)
  unfolding packet_to_write unless
  passed is_right so_right is_fits =
      rw (le-ltb fields_limit (length ts) few, ← is_each, so, ← is_known.so, so_known, ← is_right.so, so_right, size_is, ← is_fits)

module _ {named : Named} {k : PacketKind} {v : ℕ} {ts ns d : List ℕ} where
  pub measured-many : {x : Refusal} → fields_limit < length ts → RefusalMade outside_sizes x → Measured named k v ts ns d (Err x)
  unfolding packet_to_write unless
  measured-many many made = record { answer = rw (lt-ltb fields_limit (length ts) many, made.answer) }

  module _ {each : Bool} (few : length ts ≤ fields_limit) (is_each : each ≡ one_each ts ns d) where
    pub measured-each : {x : Refusal} → not each ≡ true → RefusalMade wrong_settings x → Measured named k v ts ns d (Err x)
    unfolding packet_to_write unless
    measured-each not_so made = record { answer = rw (le-ltb fields_limit (length ts) few, ← is_each, not_so, made.answer) }

    module _ {known : Bool} (so : not each ≡ false) (is_known : AllAssigned named k v ts known) where
      pub measured-known : {x : Refusal} → not known ≡ true → RefusalMade not_assigned x → Measured named k v ts ns d (Err x)
      unfolding packet_to_write unless
      measured-known not_so made =
          record { answer = rw (le-ltb fields_limit (length ts) few, ← is_each, so, ← is_known.so, not_so, made.answer) }

      module _ {right : Bool} (so_known : not known ≡ false) (is_right : AllRight named k ts ns right) where
        pub measured-right : {x : Refusal} → not right ≡ true → RefusalMade wrong_data x → Measured named k v ts ns d (Err x)
        unfolding packet_to_write unless
        measured-right not_so made =
            record {
              answer =
                  rw (le-ltb fields_limit (length ts) few, ← is_each, so, ← is_known.so, so_known, ← is_right.so, not_so, made.answer);
            }

        module _ {size : ℕ} {fits : Bool} (so_right : not right ≡ false) (is_size : PacketSized named k v ts ns size)
            (is_fits : fits ≡ in_sizes ns size) where
          pub measured-sizes : {x : Refusal} → not fits ≡ true → RefusalMade outside_sizes x
              → Measured named k v ts ns d (Err x)
          unfolding unless
          measured-sizes not_so made = record {
            answer = rw (
              passed named k v ts ns d few is_each so is_known so_known is_size is_right so_right is_fits,
              not_so,
              made.answer,
            );
          }

          pub measured-size : not fits ≡ false → Measured named k v ts ns d (Ok size)
          unfolding unless
          measured-size so_fits = record {
            answer =
                rw (
                  passed named k v ts ns d few is_each so is_known so_known is_size is_right so_right is_fits,
                  so_fits,
                  size_is named k v ts ns d few is_each so is_known so_known is_size,
                );
          }

pub ruleset measures =
    (each_same, measured-many, measured-each, measured-known, measured-right, measured-sizes, measured-size)
