-- Laws of the length rule: what is written reads back, what is read writes back, and the sizes of both. Assumes nothing.
use Prim.Native.Nat.{ℕ, zero, suc, ◌+◌, ◌/◌, ◌%◌, ◌≤◌, ◌<◌}
use mathlib.Core.Path.{◌≡◌, refl, ap, ◌∙◌}
use mathlib.Core.Logic.{◌⊎◌, inl, inr, ⊎_elim}
use mathlib.Core.Bool.{Bool, true, false, cond}
use mathlib.Core.List.{List, [], ◌∷◌}
use lib.ListN.{length, get_or, take}
use lib.Dec.{leb, ltb}
use native.Mathlib.Nat.{not-suc-le-zero, le_of_suc-le-suc}
use native.Mathlib.Omega.{arith}
use borrow.Author.Tests.{lt-ltb, le-ltb, lt-leb, ltb-true, ltb-false, leb-false}
use Rattle.length.specs.Refusals.{ends_early, bad_form}
use Rattle.length.specs.Answers.{done, refuse, LengthAnswer}
use Rattle.length.specs.Length.{length_at, length_octets, of_two, length_limit}
use Rattle.length.specs.Claims.{Octets, WrittenReads, ReadWrites}

-- ---- writing
pub length_octets-one : (n : ℕ) → n < 128 → length_octets n ≡ n ∷ []
unfolding length_octets
length_octets-one n small = rw (lt-ltb n 128 small)

pub length_octets-two : (n : ℕ) → 128 ≤ n → length_octets n ≡ (n / 256 + 128) ∷ n % 256 ∷ []
unfolding length_octets
length_octets-two n large = rw (le-ltb n 128 large)

low-or-not : (n k : ℕ) → (n < k) ⊎ (k ≤ n)
low-or-not n k = pick (ltb n k) refl where
  pick : (b : Bool) → ltb n k ≡ b → (n < k) ⊎ (k ≤ n)
  pick true e = inl (ltb-true n k e)
  pick false e = inr (ltb-false n k e)

pub size-written : (n : ℕ) → (1 ≤ length (length_octets n)) × (length (length_octets n) ≤ 2)
size-written n =
    ⊎_elim (λ small. rw (length_octets-one n small) (omega arith, omega arith))
    (λ large. rw (length_octets-two n large) (omega arith, omega arith))
    (low-or-not n 128)

pub octets-cons : (a : ℕ) (s : List ℕ) → a < 256 → Octets s → Octets (a ∷ s)
octets-cons a s small rest zero = small
octets-cons a s small rest (suc i) = rest i

pub octets-none : Octets []
octets-none i = omega arith

pub octets-written : (n : ℕ) → n ≤ length_limit → Octets (length_octets n)
octets-written n fits =
    ⊎_elim (λ small. rw (length_octets-one n small) (octets-cons n [] (omega arith) octets-none))
    (λ large. rw (length_octets-two n large) (octets-cons (n / 256 + 128) (n % 256 ∷ []) (omega arith)
    (octets-cons (n % 256) [] (omega arith) octets-none)))
    (low-or-not n 128)

-- ---- reading
pub length_at-one : (s : List ℕ) → 1 ≤ length s → get_or s 0 0 < 128 → length_at s ≡ done (record { value = get_or s 0 0; size = 1 })
unfolding length_at
length_at-one s some small = rw (le-ltb (length s) 1 some, lt-ltb (get_or s 0 0) 128 small)

pub length_at-two : (s : List ℕ) → 2 ≤ length s → 128 ≤ get_or s 0 0 → get_or s 0 0 < 192 → 128 ≤ of_two (get_or s 0 0) (get_or s 1 0)
    → length_at s ≡ done (record { value = of_two (get_or s 0 0) (get_or s 1 0); size = 2 })
unfolding length_at
length_at-two s two long low large =
    rw (
      le-ltb (length s) 1 (omega arith),
      le-ltb (get_or s 0 0) 128 long,
      lt-leb 192 (get_or s 0 0) low,
      le-ltb (length s) 2 two,
      le-ltb (of_two (get_or s 0 0) (get_or s 1 0)) 128 large,
    )

-- a length that reads is of one octet or of two
pub data Form (s : List ℕ) (a : LengthAnswer) : Type 0 where
  one : 1 ≤ length s → get_or s 0 0 < 128 → a.value ≡ get_or s 0 0 → a.size ≡ 1 → Form s a
  two : 2 ≤ length s → 128 ≤ get_or s 0 0 → get_or s 0 0 < 192 → 128 ≤ of_two (get_or s 0 0) (get_or s 1 0)
      → a.value ≡ of_two (get_or s 0 0) (get_or s 1 0) → a.size ≡ 2 → Form s a

-- what the five tests of the definition say of an answer that is no refusal
shape : (b₁ b₂ b₃ b₄ b₅ : Bool) (x y a : LengthAnswer)
    → cond b₁ (refuse ends_early) (cond b₂ (done x)
    (cond b₃ (refuse bad_form) (cond b₄ (refuse ends_early) (cond b₅ (refuse bad_form) (done y)))))
    ≡ done a
    → ((b₁ ≡ false) × (b₂ ≡ true) × (a ≡ x)) ⊎ ((b₂ ≡ false) × (b₃ ≡ false) × (b₄ ≡ false) × (b₅ ≡ false) × (a ≡ y))
shape true b₂ b₃ b₄ b₅ x y a e = let z : ◌≡◌ {A = ℕ} 0 1 = cc in absurd (omega arith)
shape false true b₃ b₄ b₅ x y a e = inl (refl, refl, cc)
shape false false true b₄ b₅ x y a e = let z : ◌≡◌ {A = ℕ} 0 1 = cc in absurd (omega arith)
shape false false false true b₅ x y a e = let z : ◌≡◌ {A = ℕ} 0 1 = cc in absurd (omega arith)
shape false false false false true x y a e = let z : ◌≡◌ {A = ℕ} 0 1 = cc in absurd (omega arith)
shape false false false false false x y a e = inr (refl, refl, refl, refl, cc)

pub form : (s : List ℕ) (a : LengthAnswer) → length_at s ≡ done a → Form s a
unfolding length_at
form s a e =
    ⊎_elim
    (λ p. one (ltb-false (length s) 1 p.0) (ltb-true (get_or s 0 0) 128 p.1) (ap (λ (x : LengthAnswer). x.value) p.2)
    (ap (λ (x : LengthAnswer). x.size) p.2))
    (λ p. two (ltb-false (length s) 2 p.2) (ltb-false (get_or s 0 0) 128 p.0) (leb-false 192 (get_or s 0 0) p.1)
    (ltb-false (of_two (get_or s 0 0) (get_or s 1 0)) 128 p.3)
    (ap (λ (x : LengthAnswer). x.value) p.4)
    (ap (λ (x : LengthAnswer). x.size) p.4))
    (shape (ltb (length s) 1) (ltb (get_or s 0 0) 128) (leb 192 (get_or s 0 0)) (ltb (length s) 2)
    (ltb (of_two (get_or s 0 0) (get_or s 1 0)) 128) _ _ a e)

-- the sizes of a length that reads
pub record Sizes (s : List ℕ) (a : LengthAnswer) : Type 0 where
  pub some : 1 ≤ a.size
  pub inside : a.size ≤ length s
  pub few : a.size ≤ 2

pub sizes-form : (s : List ℕ) (a : LengthAnswer) → Form s a → Sizes s a
sizes-form s a (one h low v n) = record { some = omega arith; inside = omega arith; few = omega arith }
sizes-form s a (two h long low large v n) = record { some = omega arith; inside = omega arith; few = omega arith }

pub sizes-read : (s : List ℕ) (a : LengthAnswer) → length_at s ≡ done a → Sizes s a
sizes-read s a e = sizes-form s a (form s a e)

value-form : (s : List ℕ) (a : LengthAnswer) → Octets s → Form s a → a.value ≤ length_limit
value-form s a octets (one h low v n) = omega arith
value-form s a octets (two h long low large v n) = omega (arith, octets 1)

pub value_read : (s : List ℕ) (a : LengthAnswer) → Octets s → length_at s ≡ done a → a.value ≤ length_limit
value_read s a octets e = value-form s a octets (form s a e)

-- ---- both
pub written-reads : WrittenReads
written-reads n rest fits =
    ⊎_elim (λ small. rw (length_octets-one n small) (length_at-one (n ∷ rest) (omega arith) small))
    (λ large.
    rw (length_octets-two n large)
    (length_at-two ((n / 256 + 128) ∷ n % 256 ∷ rest) (omega arith) (omega arith) (omega arith) (omega arith)
    ∙ ap (λ (k : ℕ). done (record { value = k; size = 2 })) (omega arith)))
    (low-or-not n 128)

take-two : (s : List ℕ) → 2 ≤ length s → take 2 s ≡ get_or s 0 0 ∷ get_or s 1 0 ∷ []
take-two [] h = absurd (not-suc-le-zero h)
take-two (x ∷ []) h = absurd (not-suc-le-zero (le_of_suc-le-suc h))
take-two (x ∷ y ∷ s) h = refl

take-one : (s : List ℕ) → 1 ≤ length s → take 1 s ≡ get_or s 0 0 ∷ []
take-one [] h = absurd (not-suc-le-zero h)
take-one (x ∷ s) h = refl

back-form : (s : List ℕ) (a : LengthAnswer) → Octets s → Form s a → length_octets a.value ≡ take a.size s
back-form s a octets (one h low v n) =
    rw (v, n, length_octets-one (get_or s 0 0) low, take-one s h)
back-form s a octets (two h long low large v n) =
    rw (v, n, length_octets-two _ large, take-two s h)
    (let small = octets 1 in
    let high : of_two (get_or s 0 0) (get_or s 1 0) / 256 + 128 ≡ get_or s 0 0 = omega arith in
    let part : of_two (get_or s 0 0) (get_or s 1 0) % 256 ≡ get_or s 1 0 = omega arith in
    rw (high, part))

pub read-writes : ReadWrites
read-writes s a octets e = back-form s a octets (form s a e)
