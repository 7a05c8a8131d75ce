-- What is spelt, packed into octets, stands there; and what stands in some octets packs into them. Assumes nothing.
use Prim.Native.Nat.{ℕ, suc, ◌+◌, ◌-◌, ◌*◌, ◌/◌, ◌%◌, ◌^◌, ◌<◌}
use mathlib.Core.Path.{◌≡◌, refl, sym, ap, ap₂, subst, ◌∙◌}
use mathlib.Core.Bool.{Bool, true, false, cond}
use mathlib.Core.List.{List, [], ◌∷◌, ◌++◌}
use lib.ListN.{length, get_or, drop, length-append, drop_of_length-le, get_or-append}
use lib.Seq.{drop-cons, get_or_at, get_or-append-add, append_snoc}
use lib.Dec.{eqb}
use native.Mathlib.Nat.{pow-suc, div-div-eq-div-mul, div-eq_of_lt}
use native.Mathlib.Omega.{arith}
use borrow.Author.Tests.{eqb-true, eqb-false}
use Rattle.length.specs.Claims.{Octets}
use Rattle.format.specs.Spelling.{Letter, bit, octet, whole, wide, packed, in_octets}
use Rattle.format.specs.Reading.{found, bit_at}
use Rattle.format.specs.Format.{Format}
use Rattle.format.proofs.Standing.{Stands}
use Rattle.format.proofs.Lawful.{Formed, Lawful}

below-seven : (k : ℕ) → k < 8 → (k ≡ 7 → ⊥) → k < 7
below-seven k few differ = omega arith

-- how many octets there are
pub packed-long : (p v k : ℕ) (letters : List Letter) → p % 8 ≡ k → Formed p letters → (wide letters + p) % 8 ≡ 0
    → 8 * length (packed v k letters) ≡ wide letters + k
unfolding packed wide Formed
packed-long p v k [] at form edge = omega arith
packed-long p v k (octet x ∷ letters) at form edge =
    let on = form.0 in
    let rest = packed-long (8 + p) 0 0 letters (omega arith) form.1 (omega arith) in
    omega arith
packed-long p v k (bit b ∷ letters) at form edge =
    by (eqb k 7) refl (λ (last : k ≡ 7). packed-long (1 + p) 0 0 letters (omega arith) form.1 (omega arith))
    (λ (more : k < 7). packed-long (1 + p) (v * 2 + b) (1 + k) letters (omega arith) form.1 (omega arith)) where
      by : (t : Bool) → eqb k 7 ≡ t → (k ≡ 7 → 8 * length (packed 0 0 letters) ≡ wide letters + 0)
          → (k < 7 → 8 * length (packed (v * 2 + b) (1 + k) letters) ≡ wide letters + (1 + k))
          → 8 * length (cond t ((v * 2 + b) ∷ packed 0 0 letters) (packed (v * 2 + b) (1 + k) letters)) ≡ 1 + wide letters + k
      by true e last more = let rest = last (eqb-true k 7 e) in omega (arith, eqb-true k 7 e)
      by false e last more = let rest = more (below-seven k (omega arith) (eqb-false k 7 e)) in omega arith

half : (x k : ℕ) → k < 8 → x / 2 ^ (8 - k) ≡ x / 2 ^ (7 - k) / 2
half x k few =
    let e : 8 - k ≡ suc (7 - k) = omega arith in
    ap (λ (n : ℕ). x / 2 ^ n) e ∙ ap (λ (m : ℕ). x / m) (pow-suc 2 (7 - k)) ∙ sym (div-div-eq-div-mul x (2 ^ (7 - k)) 2)

-- the bits that an octet begins with are those that were there
packed-head : (p v k : ℕ) (letters : List Letter) → p % 8 ≡ k → 0 < k → Formed p letters → (wide letters + p) % 8 ≡ 0
    → get_or (packed v k letters) 0 0 / 2 ^ (8 - k) ≡ v
unfolding packed wide Formed
packed-head p v k [] at some form edge = absurd (omega arith)
packed-head p v k (octet x ∷ letters) at some form edge = let on = form.0 in absurd (omega arith)
packed-head p v k (bit b ∷ letters) at some form edge =
    by (eqb k 7) refl
    (λ (more : k < 7). packed-head (1 + p) (v * 2 + b) (1 + k) letters (omega arith) (omega arith) form.1 (omega arith)) where
      by : (t : Bool) → eqb k 7 ≡ t → (k < 7 → get_or (packed (v * 2 + b) (1 + k) letters) 0 0 / 2 ^ (8 - (1 + k)) ≡ v * 2 + b)
          → get_or (cond t ((v * 2 + b) ∷ packed 0 0 letters) (packed (v * 2 + b) (1 + k) letters)) 0 0 / 2 ^ (8 - k) ≡ v
      by true e more =
          let small = form.0 in
          rw (eqb-true k 7 e) (omega arith)
      by false e more =
          let small = form.0 in
          let rest = more (below-seven k (omega arith) (eqb-false k 7 e)) in
          let n : 8 - (1 + k) ≡ 7 - k = omega arith in
          let y : get_or (packed (v * 2 + b) (1 + k) letters) 0 0 / 2 ^ (7 - k) ≡ v * 2 + b = rw n at rest in
          half (get_or (packed (v * 2 + b) (1 + k) letters) 0 0) k (omega arith) ∙ ap (λ (z : ℕ). z / 2) y ∙ (omega arith)

-- what is packed stands there, whatever comes before and after
pub packed-stands : (pre more : List ℕ) (p v k : ℕ) (letters : List Letter) → p ≡ 8 * length pre + k → k < 8 → Formed p letters
    → (wide letters + p) % 8 ≡ 0 → Stands (pre ++ (packed v k letters ++ more)) p letters
unfolding packed wide Formed Stands
packed-stands pre more p v k [] at few form edge = tt
packed-stands pre more p v k (octet x ∷ letters) at few form edge =
    let on = form.0 in
    let place : p / 8 ≡ length pre = omega arith in
    let tail = packed 0 0 letters ++ more in
    let s = pre ++ (x ∷ (packed 0 0 letters ++ more)) in
    let there : (pre ++ (x ∷ [])) ++ tail ≡ s = append_snoc pre x tail in
    let rest = packed-stands (pre ++ (x ∷ [])) more (8 + p) 0 0 letters (omega (arith, length-append pre (x ∷ []))) (omega arith)
    form.1 (omega arith) in (
      on,
      omega (arith, length-append pre (x ∷ tail)),
      rw place (get_or_at pre x tail 0 (length pre) refl),
      subst (λ (l : List ℕ). Stands l (8 + p) letters) there rest,
    )
packed-stands pre more p v k (bit b ∷ letters) at few form edge =
    by (eqb k 7) refl
    (λ (last : k ≡ 7).
    packed-stands (pre ++ ((v * 2 + b) ∷ [])) more (1 + p) 0 0 letters (omega (arith, length-append pre ((v * 2 + b) ∷ []))) (omega arith)
    form.1
    (omega arith))
    (λ (low : k < 7). packed-stands pre more (1 + p) (v * 2 + b) (1 + k) letters (omega arith) (omega arith) form.1 (omega arith)) where
      small : b < 2
      small = form.0

      by : (t : Bool) → eqb k 7 ≡ t
          → (k ≡ 7 → Stands ((pre ++ ((v * 2 + b) ∷ [])) ++ (packed 0 0 letters ++ more)) (1 + p) letters)
          → (k < 7 → Stands (pre ++ (packed (v * 2 + b) (1 + k) letters ++ more)) (1 + p) letters)
          → (p < 8 * length (pre ++ (cond t ((v * 2 + b) ∷ packed 0 0 letters) (packed (v * 2 + b) (1 + k) letters) ++ more)))
          × (bit_at (pre ++ (cond t ((v * 2 + b) ∷ packed 0 0 letters) (packed (v * 2 + b) (1 + k) letters) ++ more)) p ≡ b)
          × Stands (pre ++ (cond t ((v * 2 + b) ∷ packed 0 0 letters) (packed (v * 2 + b) (1 + k) letters) ++ more)) (1 + p) letters
      by true e end on =
          let last = eqb-true k 7 e in
          let x = v * 2 + b in
          let tail = packed 0 0 letters ++ more in
          let place : p / 8 ≡ length pre = omega arith in
          let low : p % 8 ≡ 7 = omega arith in
          let there : (pre ++ (x ∷ [])) ++ tail ≡ pre ++ (x ∷ tail) = append_snoc pre x tail in (
            omega (arith, length-append pre (x ∷ tail)),
            rw (place, low, get_or_at pre x tail 0 (length pre) refl) (omega arith),
            subst (λ (l : List ℕ). Stands l (1 + p) letters) there (end last),
          )
      by false e end on =
          let few' : k < 7 = below-seven k few (eqb-false k 7 e) in
          let x = packed (v * 2 + b) (1 + k) letters in
          let long = packed-long (1 + p) (v * 2 + b) (1 + k) letters (omega arith) form.1 (omega arith) in
          let some : 0 < length x = omega arith in
          let place : p / 8 ≡ length pre + 0 = omega arith in
          let low : p % 8 ≡ k = omega arith in
          let head : get_or (pre ++ (x ++ more)) (length pre + 0) 0 ≡ get_or x 0 0 = get_or-append-add pre (x ++ more) 0 0
          ∙ get_or-append x more 0 0 some in
          let n : 8 - (1 + k) ≡ 7 - k = omega arith in
          let y : get_or x 0 0 / 2 ^ (7 - k) ≡ v * 2 + b
          = rw n at (packed-head (1 + p) (v * 2 + b) (1 + k) letters (omega arith) (omega arith) form.1 (omega arith)) in (
            omega (arith, length-append pre (x ++ more), length-append x more),
            rw (place, low, head, y) (omega arith),
            on few',
          )

-- what stands in octets up to their end packs into them
pub packed-back : (s : List ℕ) (p v k j : ℕ) (letters : List Letter) → Octets s → p ≡ 8 * j + k → k < 8 → Stands s p letters
    → wide letters + p ≡ 8 * length s → v ≡ get_or s j 0 / 2 ^ (8 - k) → packed v k letters ≡ drop j s
unfolding packed wide Stands
packed-back s p v k j [] small at few st ends is = sym (drop_of_length-le s {i = j} (omega arith))
packed-back s p v k j (octet x ∷ letters) small at few st ends is =
    let on = st.0 in
    let place : p / 8 ≡ j = omega arith in
    let here : j < length s = rw place at st.1 in
    let same : get_or s j 0 ≡ x = rw place at st.2 in
    let none : 0 ≡ get_or s (suc j) 0 / 2 ^ 8 = sym (div-eq_of_lt (small (suc j))) in
    let rest = packed-back s (8 + p) 0 0 (suc j) letters small (omega arith) (omega arith) st.3 (omega arith) none in
    ap₂ (λ (a : ℕ) (l : List ℕ). a ∷ l) (sym same) rest ∙ sym (drop-cons s j 0 here)
packed-back s p v k j (bit b ∷ letters) small at few st ends is =
    by (eqb k 7) refl
    (λ (last : k ≡ 7).
    packed-back s (1 + p) 0 0 (suc j) letters small (omega arith) (omega arith) st.2 (omega arith) (sym (div-eq_of_lt (small (suc j)))))
    (λ (low : k < 7) (both : v * 2 + b ≡ get_or s j 0 / 2 ^ (8 - (1 + k))).
    packed-back s (1 + p) (v * 2 + b) (1 + k) j letters small (omega arith) (omega arith) st.2 (omega arith) both) where
      place : p / 8 ≡ j
      place = omega arith

      here : j < length s
      here = omega (arith, st.0)

      low : p % 8 ≡ k
      low = omega arith

      joined : v * 2 + b ≡ get_or s j 0 / 2 ^ (7 - k)
      joined =
          let y : get_or s j 0 / 2 ^ (7 - k) % 2 ≡ b = rw (place, low) at st.1 in
          omega (arith, is, half (get_or s j 0) k few)

      by : (t : Bool) → eqb k 7 ≡ t → (k ≡ 7 → packed 0 0 letters ≡ drop (suc j) s)
          → (k < 7 → v * 2 + b ≡ get_or s j 0 / 2 ^ (8 - (1 + k)) → packed (v * 2 + b) (1 + k) letters ≡ drop j s)
          → cond t ((v * 2 + b) ∷ packed 0 0 letters) (packed (v * 2 + b) (1 + k) letters) ≡ drop j s
      by true e end on =
          let last = eqb-true k 7 e in
          let same : v * 2 + b ≡ get_or s j 0 = joined ∙ ap (λ (n : ℕ). get_or s j 0 / 2 ^ (7 - n)) last ∙ (omega arith) in
          ap₂ (λ (a : ℕ) (l : List ℕ). a ∷ l) same (end last) ∙ sym (drop-cons s j 0 here)
      by false e end on =
          let n : 7 - k ≡ 8 - (1 + k) = omega arith in
          on (below-seven k few (eqb-false k 7 e)) (joined ∙ ap (λ (m : ℕ). get_or s j 0 / 2 ^ m) n)

-- ---- one after the other
-- octets as they are
pub packed-whole : (l : List ℕ) (letters : List Letter) → packed 0 0 (whole l ++ letters) ≡ l ++ packed 0 0 letters
unfolding packed whole
packed-whole [] letters = refl
packed-whole (x ∷ l) letters = ap (λ (m : List ℕ). x ∷ m) (packed-whole l letters)

-- ---- a format that begins at the first octet and ends at an octet edge
module _ {A : Type 0} {f : Format A} (law : Lawful f) where
  -- what is written reads back, whatever follows
  pub written-found : (a : A) (i : ℕ) (more : List ℕ) → f.fits a 0 → wide (f.spelling a 0) % 8 ≡ 0
      → f.read (in_octets (f.spelling a 0) ++ more) i 0 ≡ found a (8 * length (in_octets (f.spelling a 0)))
  written-found a i more fits edge =
      let letters = f.spelling a 0 in
      let form = law.formed a 0 fits in
      let ends : (wide letters + 0) % 8 ≡ 0 = omega arith in
      let long = packed-long 0 0 0 letters refl form ends in
      (law.reads a 0 fits).reads (in_octets letters ++ more) i (packed-stands [] more 0 0 0 letters refl (omega arith) form ends)
      ∙ ap (found a) (sym long)

  -- what reads up to the last octet is written so
  pub found-written : (s : List ℕ) (i : ℕ) (a : A) → Octets s → f.read s i 0 ≡ found a (8 * length s)
      → (f.fits a 0) × (in_octets (f.spelling a 0) ≡ s)
  found-written s i a small e =
      let x = law.back s i 0 a (8 * length s) small e in
      let next = x.spells.next in (
        x.fits,
        packed-back s 0 0 0 0 (f.spelling a 0) small refl (omega arith) x.spells.stands (omega arith)
            (sym (div-eq_of_lt (small 0))),
      )
