-- How often a number stands in a list, and where, on plain values. Assumes nothing.
use Prim.Native.Nat.{ℕ, suc, ◌+◌, ◌-◌, ◌≤◌, ◌<◌}
use mathlib.Core.Path.{◌≡◌, refl, sym, ap, ◌∙◌}
use mathlib.Core.Bool.{Bool, cond}
use mathlib.Core.List.{List, [], ◌∷◌, ◌++◌}
use mathlib.Core.Logic.{⊎_elim}
use lib.ListN.{length, get_or, take}
use lib.Seq.{take-suc, take_all}
use native.Mathlib.Numerals.{add-one}
use native.Mathlib.Omega.{arith}
use borrow.Author.Tests.{eq-eqb, ne_eqb}
use Rattle.octets.proofs.Laws.{same_or_not}
use Rattle.trace_compare_code.specs.Numbers.{often, KthPlace}

-- ---- one number more
pub often-none : (number : ℕ) → often number [] ≡ 0
unfolding often
often-none number = refl

pub often-hit : (number n : ℕ) (numbers : List ℕ) → n ≡ number → often number (n ∷ numbers) ≡ suc (often number numbers)
unfolding often
often-hit number n numbers is = ap (λ (b : Bool). cond b (suc (often number numbers)) (often number numbers)) (eq-eqb n number is)

pub often-miss : (number n : ℕ) (numbers : List ℕ) → (n ≡ number → ⊥) → often number (n ∷ numbers) ≡ often number numbers
unfolding often
often-miss number n numbers other = ap (λ (b : Bool). cond b (suc (often number numbers)) (often number numbers)) (ne_eqb n number other)

pub often-append : (number : ℕ) (numbers more : List ℕ) → often number (numbers ++ more) ≡ often number numbers + often number more
often-append number [] more = let none = often-none number in omega arith
often-append number (n ∷ numbers) more =
    let rest = often-append number numbers more in
    ⊎_elim
    (λ is. let hit = often-hit number n (numbers ++ more) is in let one = often-hit number n numbers is in omega arith)
    (λ other. let miss = often-miss number n (numbers ++ more) other in let none = often-miss number n numbers other in omega arith)
    (same_or_not n number)

pub often-few : (number : ℕ) (numbers : List ℕ) → often number numbers ≤ length numbers
often-few number [] = let none = often-none number in omega arith
often-few number (n ∷ numbers) =
    let rest = often-few number numbers in
    ⊎_elim (λ is. let hit = often-hit number n numbers is in omega arith)
    (λ other. let miss = often-miss number n numbers other in omega arith)
    (same_or_not n number)

-- the next of a list
often-next : (number : ℕ) (numbers : List ℕ) (i : ℕ) → i < length numbers
    → often number (take (i + 1) numbers) ≡ often number (take i numbers) + often number (get_or numbers i 0 ∷ [])
often-next number numbers i more =
    ap (often number) (rw (add-one i) (take-suc numbers i 0 more)) ∙ often-append number (take i numbers) (get_or numbers i 0 ∷ [])

module _ (number : ℕ) (numbers : List ℕ) (i : ℕ) (more : i < length numbers) where
  pub next-hit : get_or numbers i 0 ≡ number → often number (take (i + 1) numbers) ≡ often number (take i numbers) + 1
  next-hit is =
      let next = often-next number numbers i more in
      let hit = often-hit number (get_or numbers i 0) [] is in
      let none = often-none number in
      omega arith

  next-miss : (get_or numbers i 0 ≡ number → ⊥) → often number (take (i + 1) numbers) ≡ often number (take i numbers)
  next-miss other =
      let next = often-next number numbers i more in
      let miss = often-miss number (get_or numbers i 0) [] other in
      let none = often-none number in
      omega arith

-- ---- counting: so many up to a place
pub record Counted (numbers : List ℕ) (number count i : ℕ) : Type 0 where
  pub so : count ≡ often number (take i numbers)
  pub few : count ≤ i
  pub inside : i ≤ length numbers

pub counted_start : (numbers : List ℕ) (number : ℕ) → Counted numbers number 0 0
counted_start numbers number = record { so = sym (often-none number); few = omega arith; inside = omega arith }

module _ {numbers : List ℕ} {number count i : ℕ} (c : Counted numbers number count i) where
  pub counted-hit : i < length numbers → get_or numbers i 0 ≡ number → Counted numbers number (count + 1) (i + 1)
  counted-hit more is =
      let next = next-hit number numbers i more is in
      let so = c.so in
      record { so = omega arith; few = omega (arith, c.few); inside = omega arith }

  pub counted-miss : i < length numbers → (get_or numbers i 0 ≡ number → ⊥) → Counted numbers number count (i + 1)
  counted-miss more other =
      let next = next-miss number numbers i more other in
      let so = c.so in
      record { so = omega arith; few = omega (arith, c.few); inside = omega arith }

  pub counted-all : length numbers ≤ i → count ≡ often number numbers
  counted-all end = c.so ∙ ap (often number) (take_all i numbers end)

-- ---- seeking: so many of its like are left to pass from a place on
pub record Seeking (numbers : List ℕ) (number k left j : ℕ) : Type 0 where
  pub so : left + often number (take j numbers) ≡ k
  pub inside : j ≤ length numbers

pub seeking-start : (numbers : List ℕ) (number k : ℕ) → Seeking numbers number k k 0
seeking-start numbers number k = let none = often-none number in record { so = omega arith; inside = omega arith }

module _ {numbers : List ℕ} {number k left j : ℕ} (s : Seeking numbers number k left j) where
  pub seeking-hit : j < length numbers → get_or numbers j 0 ≡ number → (left ≡ 0 → ⊥) → Seeking numbers number k (left - 1) (j + 1)
  seeking-hit more is some =
      let next = next-hit number numbers j more is in
      let so = s.so in
      record { so = omega arith; inside = omega arith }

  pub seeking-miss : j < length numbers → (get_or numbers j 0 ≡ number → ⊥) → Seeking numbers number k left (j + 1)
  seeking-miss more other =
      let next = next-miss number numbers j more other in
      let so = s.so in
      record { so = omega arith; inside = omega arith }

  pub seeking-found : j < length numbers → get_or numbers j 0 ≡ number → left ≡ 0 → KthPlace numbers number k j
  seeking-found more is none =
      let so = s.so in
      record { inside = omega arith; found = λ there. (is, omega arith); missing = λ past. absurd (omega arith) }

  pub seeking-end : length numbers ≤ j → KthPlace numbers number k j
  seeking-end end =
      let all : often number (take j numbers) ≡ often number numbers = ap (often number) (take_all j numbers end) in
      let so = s.so in
      record { inside = s.inside; found = λ there. absurd (omega arith); missing = λ past. omega arith }
