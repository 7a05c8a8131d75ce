-- Laws of a packet as the code reads it, in any edition, for this crate and those above: an item that reads ends inside the octets, and
-- what a count, a length and a field that read say of them. Assumes nothing.
use Prim.Native.Nat.{ℕ, ◌+◌, ◌-◌, ◌*◌, ◌/◌, ◌%◌, ◌^◌, ◌≤◌}
use mathlib.Core.Path.{◌≡◌, refl}
use mathlib.Core.Bool.{Bool, true, false, cond}
use mathlib.Core.List.{List}
use lib.ListN.{length, get_or, drop}
use lib.Dec.{ltb}
use native.Mathlib.Omega.{arith}
use borrow.Author.Tests.{ltb-false}
use Rattle.length.specs.Refusals.{refusal_at, ends_early, outside_sizes, spare_bit, not_assigned, wrong_data}
use Rattle.length.specs.Answers.{Answer, done, refused, read_from, ◌>>=◌, LengthAnswer}
use Rattle.length.specs.Length.{length_within}
use Rattle.length.proofs.Laws.{cond-past, cond-done, cond-kept, cond-met, from-done}
use Rattle.format.specs.Spelling.{gap}
use Rattle.format.specs.Places.{Place, bits_at, edge, edge_at}
use Rattle.datagram.specs.Sizes.{packet_limit}
use Rattle.packet.specs.Edition.{added_width, Edition, values}
use Rattle.packet.specs.Packet.{right_fields, right_data, fields_least, fields_limit}
use Rattle.packet.specs.declared.types.Enumerated.{Enumerated}
use Rattle.packet_laws.specs.Octets.{bit_set_at, Value, root_at, added_at, value_at, kind_of, FirstAnswer, first_at, Count, count_at}
use Rattle.packet_laws.specs.Octets.{HeaderAnswer, header_at, size_at, FieldAnswer, after_header, field_at}

-- ---- steps
module _ {A B : Type 0} where
  -- the step that came first was done, and the next one with its value
  pub record Stepped (first : Answer A) (next : A → Answer B) (b : B) : Type 0 where
    pub value : A
    pub was : first ≡ done value
    pub gave : next value ≡ done b

  pub stepped : (first : Answer A) (next : A → Answer B) (b : B) → ◌>>=◌ first next ≡ done b → Stepped first next b
  stepped (done a) next b e = record { value = a; was = refl; gave = e }
  stepped (refused r) next b e = let z : ◌≡◌ {A = ℕ} 0 1 = cc in absurd (omega arith)

-- ---- a value of an ENUMERATED type: it ends inside the octets
module _ (e : Enumerated) (i : ℕ) (s : List ℕ) where
  root_ends : (p : Place) (v : Value) → root_at e i s p ≡ done v → v.next ≤ 8 * length s
  unfolding root_at
  root_ends p v was =
      let value = bits_at e.width s p in
      let inside = cond-past (ltb (8 * length s) (p + e.width)) (refusal_at i ends_early) _ v was in
      let known = cond-kept (ltb value e.assigned) (refusal_at i not_assigned) _ v inside.1 in
      let is : v ≡ record { value = value; next = p + e.width } = cc known.1 in
      rw is (ltb-false (8 * length s) (p + e.width) inside.0)

  added-ends : (p : Place) (v : Value) → added_at e i s p ≡ done v → v.next ≤ 8 * length s
  unfolding added_at
  added-ends p v was =
      let value = bits_at added_width s (p + 1) in
      let some = cond-past (ltb e.added 1) (refusal_at i not_assigned) _ v was in
      let bit = cond-past (bit_set_at s p) (refusal_at i not_assigned) _ v some.1 in
      let inside = cond-past (ltb (8 * length s) (p + 1 + added_width)) (refusal_at i ends_early) _ v bit.1 in
      let known = cond-kept (ltb value e.added) (refusal_at i not_assigned) _ v inside.1 in
      let is : v ≡ record { value = e.assigned + value; next = p + 1 + added_width } = cc known.1 in
      rw is (ltb-false (8 * length s) (p + 1 + added_width) inside.0)

  pub value-ends : (p : Place) (v : Value) → value_at e i s p ≡ done v → v.next ≤ 8 * length s
  unfolding value_at
  value-ends p v was = by e.extensible (bit_set_at s p) was where
    by : (x b : Bool) → cond x (cond b (added_at e i s (p + 1)) (root_at e i s (p + 1))) (root_at e i s p) ≡ done v → v.next ≤ 8 * length s
    by true true was = added-ends (p + 1) v was
    by true false was = root_ends (p + 1) v was
    by false b was = root_ends p v was

-- ---- an octet edge
-- at a place inside the octets, or after it
pub edge-inside : (s : List ℕ) (p : Place) (at : ℕ) → p ≤ 8 * length s → edge_at s p ≡ done at → at ≤ length s
unfolding edge_at
edge-inside s p at inside e =
    let zeros = cond-past (ltb 0 (get_or s (p / 8) 0 % 2 ^ gap p)) (refusal_at (p / 8) spare_bit) _ at e in
    let is : at ≡ edge p = cc zeros.1 in
    omega arith

-- ---- the first item
pub first_ends : (edition : Edition) (s : List ℕ) (f : FirstAnswer) → first_at edition s ≡ done f → f.octets ≤ length s
unfolding first_at
first_ends edition s f e =
    let value = stepped (value_at (values edition (kind_of s)) 0 s 2) _ f e in
    let inside = value-ends (values edition (kind_of s)) 0 s 2 value.value value.was in
    let at = stepped (edge_at s value.value.next) _ f value.gave in
    let right = cond-met (right_fields (kind_of s) (bit_set_at s 0)) wrong_data _ f at.gave in
    let is : f ≡ record { first = record { kind = kind_of s; value = value.value.value; present = bit_set_at s 0 }; octets = at.value }
    = cc right.1 in
    rw is (edge-inside s value.value.next at.value inside at.was)

-- ---- the count of fields
pub record CountForm (s : List ℕ) (at : ℕ) (c : Count) : Type 0 where
  pub length : LengthAnswer
  pub reads : length_within fields_least fields_limit (drop at s) ≡ done length
  pub is : c ≡ record { value = length.value; next = 8 * (at + length.size) }

pub count-form : (s : List ℕ) (at : ℕ) (c : Count) → count_at s at true ≡ done c → CountForm s at c
unfolding count_at
count-form s at c e =
    let n = stepped (read_from at (length_within fields_least fields_limit (drop at s))) _ c e in
    record { length = n.value; reads = from-done at _ _ n.was; is = cc n.gave }

-- ---- a field
pub header-ends : (edition : Edition) (s : List ℕ) (p : Place) (h : HeaderAnswer) → header_at edition s p ≡ done h
    → h.next ≤ 8 * length s
unfolding header_at
header-ends edition s p h e =
    let value = stepped (value_at edition.types (p / 8) s (p + 1)) _ h e in
    let right = cond-kept (right_data edition value.value.value (bit_set_at s p)) (refusal_at (p / 8) wrong_data) _ h value.gave in
    let is : h ≡ record { header = record { type = value.value.value; present = bit_set_at s p }; next = value.value.next }
    = cc right.1 in
    rw is (value-ends edition.types (p / 8) s (p + 1) value.value value.was)

pub record SizeForm (s : List ℕ) (n : ℕ) : Type 0 where
  pub inside : n + 2 ≤ length s
  pub few : n ≤ packet_limit
  pub is : n ≡ get_or s 0 0 * 256 + get_or s 1 0 + 1

pub size-form : (s : List ℕ) (n : ℕ) → size_at s ≡ done n → SizeForm s n
unfolding size_at
size-form s n e =
    let size = get_or s 0 0 * 256 + get_or s 1 0 + 1 in
    let two = cond-done (ltb (length s) 2) ends_early _ n e in
    let few = cond-done (ltb packet_limit size) outside_sizes _ n two.1 in
    let all = cond-past (ltb (length s - 2) size) (refusal_at 2 ends_early) _ n few.1 in
    let is : n ≡ size = cc all.1 in
    let h = ltb-false (length s) 2 two.0 in
    let k = ltb-false packet_limit size few.0 in
    let l = ltb-false (length s - 2) size all.0 in
    record { inside = omega arith; few = omega arith; is = is }

-- what a field that reads is: one of these two
pub data FieldForm (edition : Edition) (s : List ℕ) (p : Place) (f : FieldAnswer) : Type 0 where
  bare : (k : ℕ) (q : Place) → header_at edition s p ≡ done (record { header = record { type = k; present = false }; next = q })
      → f ≡ record { field = record { kind = k; start = 0; size = 0 }; next = q } → FieldForm edition s p f
  full : (k : ℕ) (q : Place) (at n : ℕ) → header_at edition s p ≡ done (record { header = record { type = k; present = true }; next = q })
      → edge_at s q ≡ done at → size_at (drop at s) ≡ done n
      → f ≡ record { field = record { kind = k; start = at + 2; size = n }; next = 8 * (at + 2 + n) } → FieldForm edition s p f

module _ (edition : Edition) (s : List ℕ) (p : Place) (f : FieldAnswer) where
  after-form : (k : ℕ) (b : Bool) (q : Place) → header_at edition s p ≡ done (record { header = record { type = k; present = b }; next = q })
      → after_header s (record { header = record { type = k; present = b }; next = q }) ≡ done f → FieldForm edition s p f
  unfolding after_header
  after-form k true q head e =
      let at = stepped (edge_at s q) _ f e in
      let n = stepped (read_from at.value (size_at (drop at.value s))) _ f at.gave in
      full k q at.value n.value head at.was (from-done at.value _ _ n.was) (cc n.gave)
  after-form k false q head e = bare k q head (cc)

  pub field-form : field_at edition s p ≡ done f → FieldForm edition s p f
  unfolding field_at
  field-form e =
      let h = stepped (header_at edition s p) (after_header s) f e in
      after-form h.value.header.type h.value.header.present h.value.next h.was h.gave
