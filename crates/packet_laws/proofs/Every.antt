-- The loops that test or sum every element, one turn each: what is left decides. Assumes nothing.
use Rattle.std.specs.List.{list_all}
use Prim.Native.Nat.{ℕ, ◌+◌, ◌*◌, ◌/◌, ◌≤◌, ◌<◌}
use mathlib.Core.Path.{◌≡◌, refl, sym, ap, ap₂, ◌∙◌}
use mathlib.Core.Bool.{Bool, true, false, ◌&&◌}
use mathlib.Core.List.{List, [], ◌∷◌}
use lib.ListN.{length, get_or, drop, drop_of_length-le}
use lib.Seq.{drop-cons}
use lib.Dec.{eqb, leb}
use native.Mathlib.Numerals.{add-one}
use native.Mathlib.Omega.{arith}
use borrow.Author.Tests.{lt-ltb, le-ltb, le-leb, lt-leb, eq-eqb, ne_eqb}
use Rattle.packet.specs.Packet.{fields_limit, every}
use Rattle.packet.specs.Write.{total, lengths_sum}
use Rattle.packet.specs.declared.types.Enumerated.{Enumerated}
use Rattle.packet_laws.specs.Laid.{value_width, header_width, past_field, past_fields}
use Rattle.packet_laws.specs.Items.{Wide, FieldPast, FieldsPast}

pub drop-next : (s : List ℕ) (i : ℕ) → i < length s → drop i s ≡ get_or s i 0 ∷ drop (i + 1) s
drop-next s i h = drop-cons s i 0 h ∙ ap (λ (n : ℕ). get_or s i 0 ∷ drop n s) (sym (add-one i))

-- ---- a test of each
-- the library's word for it
pub all-every : (test : ℕ → Bool) (s : List ℕ) → list_all test s ≡ every test s
unfolding every
all-every test [] = refl
all-every test (x ∷ rest) = ap (λ (b : Bool). test x && b) (all-every test rest)

pub record EveryLeft (test : ℕ → Bool) (s : List ℕ) (i : ℕ) : Type 0 where
  pub so : every test s ≡ every test (drop i s)

pub every-start : (test : ℕ → Bool) (s : List ℕ) → EveryLeft test s 0
every-start test s = record { so = refl }

module _ {test : ℕ → Bool} {s : List ℕ} {i : ℕ} where
  pub every-turn : EveryLeft test s i → i < length s → test (get_or s i 0) ≡ true → EveryLeft test s (i + 1)
  unfolding every
  every-turn left h holds =
      record { so = left.so ∙ ap (every test) (drop-next s i h) ∙ ap (λ (b : Bool). b && every test (drop (i + 1) s)) holds }

  pub every-not : EveryLeft test s i → i < length s → test (get_or s i 0) ≡ false → false ≡ every test s
  unfolding every
  every-not left h fails =
      sym (left.so ∙ ap (every test) (drop-next s i h) ∙ ap (λ (b : Bool). b && every test (drop (i + 1) s)) fails)

  pub every-done : EveryLeft test s i → length s ≤ i → true ≡ every test s
  unfolding every
  every-done left h = sym (left.so ∙ ap (every test) (drop_of_length-le s h))

pub zero_is : {x : ℕ} → x ≤ 0 → eqb x 0 ≡ true
zero_is {x} h = eq-eqb x 0 (omega arith)

pub zero-not : {x : ℕ} → 0 < x → eqb x 0 ≡ false
zero-not {x} h = ne_eqb x 0 (λ (e : x ≡ 0). omega arith)

pub wide_short : {x n k : ℕ} → Wide x n → n ≤ k → leb x k ≡ true
wide_short {x} {n} {k} wide short = le-leb x k (omega (arith, wide.same))

pub wide-long : {x n k : ℕ} → Wide x n → k < n → leb x k ≡ false
wide-long {x} {n} {k} wide long = lt-leb x k (omega (arith, wide.same))

-- the laws of a loop that tests each element
pub ruleset evers = (every-start, every-turn, every-not, every-done, zero_is, zero-not, wide_short, wide-long, le-leb, lt-leb)

-- ---- a sum over each, of lengths
pub record Summing (s : List ℕ) (i all : ℕ) : Type 0 where
  pub inside : i ≤ length s
  pub few : all ≤ i * 65536
  pub so : all + lengths_sum (drop i s) ≡ lengths_sum s

pub sum-start : (s : List ℕ) → Summing s 0 0
sum-start s = record { inside = omega arith; few = omega arith; so = omega arith }

pub sum-next : (s : List ℕ) (i : ℕ) → i < length s → lengths_sum (drop i s) ≡ get_or s i 0 + lengths_sum (drop (i + 1) s)
unfolding total
sum-next s i h = ap lengths_sum (drop-next s i h)

module _ {s : List ℕ} {i all : ℕ} where
  pub sum-turn : {n : ℕ} → Summing s i all → i < length s → Wide (get_or s i 0) n → Summing s (i + 1) (all + n)
  sum-turn g h wide =
      let next = sum-next s i h in
      let so = g.so in
      let few = g.few in
      record { inside = omega arith; few = omega (arith, wide.small); so = omega (arith, wide.same) }

  pub sum_done : Summing s i all → length s ≤ i → all ≡ lengths_sum s
  unfolding total
  sum_done g end = let e : lengths_sum (drop i s) ≡ 0 = ap lengths_sum (drop_of_length-le s end) in omega (arith, g.so)

-- the laws of a loop that sums
pub ruleset sums = (sum-start, sum-turn, sum_done)

-- ---- the place after each field
module _ {e : Enumerated} {p k n h : ℕ} (is : h ≡ value_width e k) (few : h ≤ 8) where
  pub past-some : n < 65536 → 0 < n → FieldPast e p k n (8 * ((p + 1 + h + 7) / 8 + 2 + n))
  past-some small some =
      let same : p + 1 + h ≡ p + header_width e k = omega arith in
      record { answer = rw (lt-ltb 0 n some, ← same); small = omega arith }

  pub past-none : n ≤ 0 → FieldPast e p k n (p + 1 + h)
  past-none none =
      let same : p + 1 + h ≡ p + header_width e k = omega arith in
      record { answer = rw (le-ltb 0 n none, ← same); small = omega arith }

pub record Passing (e : Enumerated) (from : ℕ) (ts ns : List ℕ) (i p : ℕ) : Type 0 where
  pub inside : i ≤ length ts
  pub few : p ≤ from + i * 524328
  pub so : past_fields e p (drop i ts) (drop i ns) ≡ past_fields e from ts ns

pub pass-start : (e : Enumerated) (from : ℕ) (ts ns : List ℕ) → Passing e from ts ns 0 from
pass-start e from ts ns = record { inside = omega arith; few = omega arith; so = refl }

module _ {e : Enumerated} {from : ℕ} {ts ns : List ℕ} {i p : ℕ} where
  pub pass-turn : {n q : ℕ} → Passing e from ts ns i p → length ts ≡ length ns → i < length ts → Wide (get_or ns i 0) n
      → FieldPast e p (get_or ts i 0) n q
      → Passing e from ts ns (i + 1) q
  unfolding past_fields
  pass-turn {n} {q} g same h wide past =
      let is : q ≡ past_field e p (get_or ts i 0) (get_or ns i 0) = past.answer ∙ ap (past_field e p (get_or ts i 0)) wide.same in
      record {
        inside = omega arith;
        few = omega (arith, past.small, g.few);
        so = ap (λ (k : ℕ). past_fields e k (drop (i + 1) ts) (drop (i + 1) ns)) is
            ∙ sym (ap₂ (past_fields e p) (drop-next ts i h) (drop-next ns i (omega arith))) ∙ g.so;
      }

  pub pass-done : Passing e from ts ns i p → length ts ≤ i → length ts ≤ fields_limit → FieldsPast e from ts ns p
  unfolding past_fields
  pass-done g end few =
      record {
        answer = sym (ap (λ (l : List ℕ). past_fields e p l (drop i ns)) (drop_of_length-le ts end)) ∙ g.so;
        small = omega (arith, g.few, g.inside);
      }

-- the laws of a loop over the places of fields
pub ruleset passes = (past-some, past-none, pass-start, pass-turn, pass-done)
