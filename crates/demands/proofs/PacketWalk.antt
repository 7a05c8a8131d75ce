-- The packet reader goes by the items' tables, one after the other: it refuses for the first wrong item's reason, at its octet, and
-- where there is none, a packet stands there and nothing is left over. What the reader comes to is met from the first value on, and what
-- is met from an item on is settled by its table: the reason that it gives, or what is met from the item after it. Assumes nothing.
use Prim.Native.Nat.{ℕ, zero, suc, ◌+◌, ◌*◌, ◌/◌, ◌≤◌}
use mathlib.Core.Path.{◌≡◌, refl, sym, ap, subst, ◌∙◌}
use mathlib.Core.Bool.{Bool, true, false, cond}
use mathlib.Core.List.{List, [], ◌∷◌}
use mathlib.Core.Option.{Option, none, some}
use lib.ListN.{length, drop}
use native.Mathlib.Omega.{arith}
use borrow.Author.Tests.{le-ltb}
use Rattle.length.specs.Refusals.{refusal_at, left_over, wrong_data}
use Rattle.length.specs.declared.Refusal.{Refusal}
use Rattle.length.specs.Answers.{Answer, done, refused, refuse, refuse_at, read_from, ◌>>=◌}
use Rattle.length.specs.Tables.{first}
use Rattle.length.specs.declared.Reason.{Reason}
use Rattle.format.specs.Places.{Place, edge, edge_at}
use Rattle.datagram.specs.Sizes.{packet_limit}
use Rattle.packet.specs.Edition.{Edition, edition_of}
use Rattle.packet.specs.Packet.{PacketAnswer, read_packet, right_fields, may_follow}
use Rattle.packet_laws.specs.Octets.{bit_set_at, kind_of, Value, value_at, FirstAnswer, first_at, count_at, HeaderAnswer, header_at}
use Rattle.packet_laws.specs.Octets.{size_at}
use Rattle.packet_laws.specs.Octets.{FieldAnswer, after_header, field_at, FieldsAnswer, fields_at, end_at, packet_by_octets}
use Rattle.packet.specs.declared.types.Ending.{Ending}
use Rattle.packet.specs.declared.types.Named.{Named}
use Rattle.packet_laws.proofs.Laws.{narrow, read_at}
use Rattle.demands.specs.Demand1.PacketItems.{Item, first_value, fields_allowed, count_of_fields, header, padding, data_length, field_data}
use Rattle.demands.specs.Demand1.PacketItems.{end}
use Rattle.demands.specs.Demand1.PacketItems.{fields, octet_of, rows, value_in, value_ends, octet_here, has_fields, first_values, type_in}
use Rattle.demands.specs.Demand1.PacketItems.{data_size}
use Rattle.demands.specs.Demand1.PacketItems.{ends}
use Rattle.demands.specs.Demand1.PacketItems.{due_after}
use Rattle.demands.proofs.PacketTables.{answered, bind_assoc, first-table, allowed-table, header-table, padding-table}
use Rattle.demands.proofs.PacketTables.{size-table, end-table}
use Rattle.demands.proofs.PacketCount.{count-table}

-- the refusal that a call came to, or none
abbrev pub why_in : {A : Type 0} → Answer A → Option Refusal
why_in (done a) = none
why_in (refused why) = some why

-- ---- what is met
module _ (edition : Edition) (ending : Ending) (s : List ℕ) where
  -- from an item on the first refusal is this one, at the octet of its item, or there is none
  pub data Met : Place → Item → Option Refusal → Type 0 where
    wrong : {p : Place} {item : Item} {n : Reason} → first (rows edition ending item s p) ≡ some n
        → Met p item (some (refusal_at (octet_of item p) n))
    right : {p : Place} {item : Item} {o : Option Refusal} → first (rows edition ending item s p) ≡ none
        → Met (ends edition item s p) (due_after item s p) o → Met p item o
    whole : {p : Place} → first (rows edition ending end s p) ≡ none → Met p end none

module _ {A B : Type 0} {edition : Edition} {ending : Ending} {s : List ℕ} where
  -- a reader that is an item's table, and what reads on
  step : (p : Place) (item : Item) (m : Answer A) (x : A) (next : A → Answer B)
      → m ≡ answered (octet_of item p) (first (rows edition ending item s p)) x
      → Met edition ending s (ends edition item s p) (due_after item s p) (why_in (next x))
      → Met edition ending s p item (why_in (◌>>=◌ m next))
  step p item m x next e on =
      subst (λ (a : Answer A). Met edition ending s p item (why_in (◌>>=◌ a next))) (sym e)
      (by (first (rows edition ending item s p)) refl) where
        by : (o : Option Reason) → first (rows edition ending item s p) ≡ o
            → Met edition ending s p item (why_in (◌>>=◌ (answered (octet_of item p) o x) next))
        by (some n) e = wrong e
        by none e = right e on

  either : (b : Bool) (p : Place) (one other : Item) (x y : Answer A) (next : A → Answer B)
      → Met edition ending s p one (why_in (◌>>=◌ x next)) → Met edition ending s p other (why_in (◌>>=◌ y next))
      → Met edition ending s p (cond b one other) (why_in (◌>>=◌ (cond b x y) next))
  either true p one other x y next there other-there = there
  either false p one other x y next there other-there = other-there

-- ---- the reader meets the items
module _ {B : Type 0} (edition : Edition) (ending : Ending) (s : List ℕ) where
  -- what reads on from a place comes to what is met from there on
  OnFrom : Item → Place → Answer B → Type 0
  OnFrom item p m = Met edition ending s p item (why_in m)

  length-walk : (left at : ℕ) (next : ℕ → Answer B) → ((n : ℕ) → OnFrom (fields left) (8 * at + 16 + 8 * n) (next n))
      → OnFrom (data_length left) (8 * at) (◌>>=◌ (read_from at (size_at (drop at s))) next)
  unfolding OnFrom
  length-walk left at next on =
      let n = data_size s (8 * at) in
      let size : Answer ℕ =
      answered (8 * at / 8) (first (rows edition ending (data_length left) s (8 * at))) (data_size s (8 * at)) in
      let octets : ℕ → Answer ℕ =
      λ n. answered ((8 * at + 16) / 8) (first (rows edition ending (field_data n left) s (8 * at + 16))) n in
      subst (λ (m : Answer B). OnFrom (data_length left) (8 * at) m)
      (sym (ap (λ (m : Answer ℕ). ◌>>=◌ m next) (size-table edition ending left s at) ∙ bind_assoc size octets next))
      (step (8 * at) (data_length left) size n (λ n. ◌>>=◌ (octets n) next) refl
      (step (8 * at + 16) (field_data n left) (octets n) n next refl (on n)))

  -- with data: an octet edge, the length and the data
  data-walk : (left : ℕ) (p : Place) (made : ℕ → ℕ → FieldAnswer) (next : FieldAnswer → Answer B)
      → ((at n : ℕ) → OnFrom (fields left) (8 * at + 16 + 8 * n) (next (made at n)))
      → OnFrom (padding (data_length left)) p
      (◌>>=◌ (◌>>=◌ (edge_at s p) (λ at. ◌>>=◌ (read_from at (size_at (drop at s))) (λ n. done (made at n)))) next)
  unfolding OnFrom
  data-walk left p made next on =
      let sized : ℕ → Answer FieldAnswer = λ at. ◌>>=◌ (read_from at (size_at (drop at s))) (λ n. done (made at n)) in
      subst (λ (m : Answer B). OnFrom (padding (data_length left)) p m) (sym (bind_assoc (edge_at s p) sized next))
      (step p (padding (data_length left)) (edge_at s p) (edge p) (λ at. ◌>>=◌ (sized at) next)
      (padding-table edition ending (data_length left) s p)
      (subst (λ (m : Answer B). OnFrom (data_length left) (8 * edge p) m)
      (sym (bind_assoc (read_from (edge p) (size_at (drop (edge p) s))) (λ n. done (made (edge p) n)) next))
      (length-walk left (edge p) (λ n. next (made (edge p) n)) (on (edge p)))))

  field-walk : (left : ℕ) (p : Place) (next : FieldAnswer → Answer B) → ((f : FieldAnswer) → OnFrom (fields left) f.next (next f))
      → OnFrom (header left) p (◌>>=◌ (field_at edition s p) next)
  unfolding OnFrom field_at after_header
  field-walk left p next on =
      let kind = type_in edition s p in
      let q = value_ends edition.types s (p + 1) in
      let h : HeaderAnswer = record {
        header = record { type = type_in edition s p; present = bit_set_at s p };
        next = value_ends edition.types s (p + 1);
      } in
      let made : ℕ → ℕ → FieldAnswer =
      λ at n. record { field = record { kind = type_in edition s p; start = at + 2; size = n }; next = 8 * (at + 2 + n) } in
      subst (λ (m : Answer B). OnFrom (header left) p m) (sym (bind_assoc (header_at edition s p) (after_header s) next))
      (step p (header left) (header_at edition s p) h (λ h. ◌>>=◌ (after_header s h) next) (header-table edition ending left s p)
      (either (bit_set_at s p) q (padding (data_length left)) (fields left) _ _ next
      (data-walk left q made next
      (λ at n. subst (λ (q : Place). OnFrom (fields left) q (next (made at n))) (there at n) (on (made at n))))
      (on (record { field = record { kind = kind; start = 0; size = 0 }; next = q })))) where
        there : (at n : ℕ) → 8 * (at + 2 + n) ≡ 8 * at + 16 + 8 * n
        there at n = omega arith

  fields-walk : (n : ℕ) (p : Place) (next : FieldsAnswer → Answer B)
      → ((a : FieldsAnswer) → OnFrom (padding end) a.next (next a)) → OnFrom (fields n) p (◌>>=◌ (fields_at edition n s p) next)
  unfolding fields_at
  fields-walk zero p next on = on (record { fields = []; next = p })
  fields-walk (suc n) p next on =
      subst (λ (m : Answer B). OnFrom (header n) p m) (sym (bind_assoc (field_at edition s p) _ next))
      (field-walk n p _
      (λ f.
      subst (λ (m : Answer B). OnFrom (fields n) f.next m) (sym (bind_assoc (fields_at edition n s f.next) _ next))
      (fields-walk n f.next (λ rest. next (record { fields = f.field ∷ rest.fields; next = rest.next })) (λ rest. on _))))

  -- to the octet edge, and what may follow there
  end-walk : (p : Place) (a : B) → OnFrom (padding end) p (end_at ending s p a)
  unfolding OnFrom end_at
  end-walk p a =
      step p (padding end) (edge_at s p) (edge p) (λ at. cond (may_follow ending (drop at s)) (done a) (refuse_at at left_over))
      (padding-table edition ending end s p)
      (subst (λ (m : Answer B). OnFrom end (8 * edge p) m) (sym (end-table edition ending s (edge p) a))
      (by (first (rows edition ending end s (8 * edge p))) refl)) where
        by : (o : Option Reason) → first (rows edition ending end s (8 * edge p)) ≡ o
            → OnFrom end (8 * edge p) (answered (8 * edge p / 8) o a)
        by (some n) e = wrong e
        by none e = whole e

  fields-then : (n : ℕ) (p : Place) (made : FieldsAnswer → B)
      → OnFrom (fields n) p (◌>>=◌ (fields_at edition n s p) (λ a. end_at ending s a.next (made a)))
  fields-then n p made = fields-walk n p _ (λ a. end-walk a.next (made a))

  count-walk : (present : Bool) (at : ℕ) (made : FieldsAnswer → B)
      → OnFrom (cond present count_of_fields (fields 0)) (8 * at)
      (◌>>=◌ (count_at s at present) (λ c. ◌>>=◌ (fields_at edition c.value s c.next) (λ a. end_at ending s a.next (made a))))
  unfolding OnFrom count_at
  count-walk true at made =
      let on : 8 * (at + 1) ≡ 8 * at + 8 = omega arith in
      step (8 * at) count_of_fields (count_at s at true) (record { value = octet_here s (8 * at); next = 8 * (at + 1) }) _
      (count-table edition ending s at)
      (subst (λ (q : Place). OnFrom (fields (octet_here s (8 * at))) q
      (◌>>=◌ (fields_at edition (octet_here s (8 * at)) s (8 * (at + 1))) (λ a. end_at ending s a.next (made a)))) on
      (fields-then (octet_here s (8 * at)) (8 * (at + 1)) made))
  count-walk false at made = fields-then 0 (8 * at) made

  -- the first value, its padding, and whether its kind may have fields
  first_walk : (next : FirstAnswer → Answer B)
      → ((f : FirstAnswer) → f.first.present ≡ has_fields s
      → OnFrom (cond (has_fields s) count_of_fields (fields 0)) (8 * f.octets) (next f))
      → OnFrom first_value 0 (◌>>=◌ (first_at edition s) next)
  unfolding OnFrom first_at
  first_walk next on =
      let e = first_values edition s in
      let v : Value = record { value = value_in (first_values edition s) s 2; next = value_ends (first_values edition s) s 2 } in
      let p = value_ends (first_values edition s) s 2 in
      let read : ℕ → FirstAnswer = λ at. record {
        first = record { kind = kind_of s; value = value_in (first_values edition s) s 2; present = bit_set_at s 0 };
        octets = at;
      } in
      let allow : ℕ → Answer FirstAnswer = λ at. cond (right_fields (kind_of s) (has_fields s)) (done (read at)) (refuse wrong_data) in
      subst (λ (m : Answer B). OnFrom first_value 0 m) (sym (bind_assoc (value_at e 0 s 2) _ next))
      (step 0 first_value (value_at e 0 s 2) v _ (first-table edition ending s)
      (subst (λ (m : Answer B). OnFrom (padding fields_allowed) p m) (sym (bind_assoc (edge_at s p) allow next))
      (step p (padding fields_allowed) (edge_at s p) (edge p) (λ at. ◌>>=◌ (allow at) next) (padding-table edition ending fields_allowed s p)
      (step (8 * edge p) fields_allowed (allow (edge p)) (read (edge p)) next (allowed-table edition ending s (8 * edge p) (read (edge p)))
      (on (read (edge p)) refl)))))

-- what the reader comes to is met from the first value on
pub packet-walk : (named : Named) (ending : Ending) (s : List ℕ) → length s ≤ packet_limit
    → Met (edition_of named) ending s 0 first_value (why_in (read_packet (edition_of named) ending s))
unfolding packet_by_octets OnFrom
packet-walk named ending s fits =
    let made : FirstAnswer → FieldsAnswer → PacketAnswer =
    λ f all. record { kind = f.first.kind; value = f.first.value; fields = all.fields } in
    let on : FirstAnswer → Answer PacketAnswer =
    λ f.
    ◌>>=◌ (count_at s f.octets f.first.present)
    (λ c. ◌>>=◌ (fields_at (edition_of named) c.value s c.next) (λ a. end_at ending s a.next (made f a))) in
    rw (read_at (edition_of named) (narrow named) ending s, le-ltb packet_limit (length s) fits)
    (first_walk (edition_of named) ending s on
    (λ f same.
    subst (λ (b : Bool). Met (edition_of named) ending s (8 * f.octets) (cond b count_of_fields (fields 0)) (why_in (on f))) same
    (count-walk (edition_of named) ending s f.first.present f.octets (made f))))
