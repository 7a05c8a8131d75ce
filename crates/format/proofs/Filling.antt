-- What a number's bits do to the octet that they come to, packed after those that wait there. Assumes nothing.
use Prim.Native.Nat.{ℕ, zero, suc, ◌+◌, ◌-◌, ◌*◌, ◌/◌, ◌%◌, ◌^◌, ◌≤◌, ◌<◌}
use mathlib.Core.Path.{◌≡◌, refl, sym, ap, ap₂, ◌∙◌}
use mathlib.Core.Bool.{Bool, true, false, cond}
use mathlib.Core.List.{List, [], ◌∷◌, ◌++◌, append_assoc}
use lib.ListN.{length}
use lib.Dec.{ltb}
use lib.Pow.{pow-add, pow_pos, shr_lt}
use native.Mathlib.Nat.{pow-suc, mul_assoc, mul_comm, add-mul, mod-lt, mod-one, mod-eq_of_lt, mul-add-div_right, mul-add-mod_self_right}
use native.Mathlib.Nat.{add-zero, div-div-eq-div-mul, div-eq_of_lt, mul-le-mul_right, zero-mod}
use native.Mathlib.Omega.{arith}
use borrow.Author.Tests.{ne_eqb, lt-ltb, ltb-true, ltb-false}
use Rattle.format.specs.Spelling.{Letter, bit, spelt, packed, gap}
use Rattle.format.specs.Waiting.{Waiting, Waits, none_wait, joined, full_octets, left, closed}
use Rattle.format.specs.Places.{edge}
use Rattle.format.proofs.Standing.{low-bits, spelt-above}

-- ---- a number's bits
-- a number spelt in two parts
spelt-parts : (m n x : ℕ) → spelt (m + n) x ≡ spelt m (x / 2 ^ n) ++ spelt n x
unfolding spelt
spelt-parts zero n x = let e : 0 + n ≡ n = omega arith in rw e
spelt-parts (suc m) n x =
    let e : suc m + n ≡ suc (m + n) = omega arith in
    let high : x / 2 ^ (m + n) ≡ x / 2 ^ n / 2 ^ m
    = ap (λ (d : ℕ). x / d) (pow-add 2 m n ∙ mul_comm (2 ^ m) (2 ^ n)) ∙ sym (div-div-eq-div-mul x (2 ^ n) (2 ^ m)) in
    rw (e, high) (ap (λ (l : List Letter). bit (x / 2 ^ n / 2 ^ m % 2) ∷ l) (spelt-parts m n x))

-- two numbers, one after the other
pub spelt-join : (m n x y : ℕ) → y < 2 ^ n → spelt (m + n) (x * 2 ^ n + y) ≡ spelt m x ++ spelt n y
spelt-join m n x y small =
    let high : (x * 2 ^ n + y) / 2 ^ n ≡ x
    = mul-add-div_right (pow_pos n) x y ∙ ap (λ (z : ℕ). x + z) (div-eq_of_lt small) ∙ add-zero x in
    spelt-parts m n (x * 2 ^ n + y) ∙ ap₂ (λ (a b : List Letter). a ++ b) (ap (spelt m) high) (spelt-above n x y)

-- a number and the next bit of another
with-bit : (v x n : ℕ) → (v * 2 + x / 2 ^ n % 2) * 2 ^ n + x % 2 ^ n ≡ v * 2 ^ suc n + x % 2 ^ suc n
with-bit v x n =
    let b = x / 2 ^ n % 2 in
    let low : b * 2 ^ n + x % 2 ^ n ≡ x % 2 ^ suc n = low-bits x n in
    let high : v * 2 * 2 ^ n ≡ v * 2 ^ suc n
    = mul_assoc v 2 (2 ^ n) ∙ ap (λ (m : ℕ). v * m) (mul_comm 2 (2 ^ n) ∙ sym (pow-suc 2 n)) in
    omega (arith, add-mul (v * 2) b (2 ^ n))

-- ---- packed after k bits that make the number v
-- too few to fill the octet
packed-on : (n x v k : ℕ) (more : List Letter) → k + n < 8 → packed v k (spelt n x ++ more) ≡ packed (v * 2 ^ n + x % 2 ^ n) (k + n) more
unfolding spelt packed
packed-on zero x v k more few =
    let e : k + 0 ≡ k = omega arith in
    let is : v * 2 ^ 0 + x % 2 ^ 0 ≡ v = omega (arith, mod-one x) in
    rw (e, is)
packed-on (suc n) x v k more few =
    let e : 1 + k + n ≡ k + suc n = omega arith in
    rw (ne_eqb k 7 (λ (is : k ≡ 7). omega arith), ← with-bit v x n, ← e)
    (packed-on n x (v * 2 + x / 2 ^ n % 2) (1 + k) more (omega arith))

-- just as many as fill it
packed-full : (n x v k : ℕ) (more : List Letter) → k + suc n ≡ 8
    → packed v k (spelt (suc n) x ++ more) ≡ (v * 2 ^ suc n + x % 2 ^ suc n) ∷ packed 0 0 more
unfolding spelt packed
packed-full zero x v k more full =
    let last : k ≡ 7 = omega arith in
    rw (last, ← with-bit v x 0)
    (ap (λ (o : ℕ). o ∷ packed 0 0 more) (omega (arith, mod-one x)))
packed-full (suc n) x v k more full =
    rw (ne_eqb k 7 (λ (is : k ≡ 7). omega arith), ← with-bit v x (suc n))
    (packed-full n x (v * 2 + x / 2 ^ suc n % 2) (1 + k) more (omega arith))

-- more than fill it: the octet, and what waits then
packed-past : (m n x v k : ℕ) (more : List Letter) → k + suc m ≡ 8 → n < 8 → x < 2 ^ (suc m + n)
    → packed v k (spelt (suc m + n) x ++ more)
    ≡ ((v * 2 ^ (suc m + n) + x) / 2 ^ n) ∷ packed ((v * 2 ^ (suc m + n) + x) % 2 ^ n) n more
packed-past m n x v k more full few small =
    let all : v * 2 ^ (suc m + n) ≡ v * 2 ^ suc m * 2 ^ n
    = ap (λ (p : ℕ). v * p) (pow-add 2 (suc m) n) ∙ sym (mul_assoc v (2 ^ suc m) (2 ^ n)) in
    let high : (v * 2 ^ suc m * 2 ^ n + x) / 2 ^ n ≡ v * 2 ^ suc m + x / 2 ^ n = mul-add-div_right (pow_pos n) (v * 2 ^ suc m) x in
    let low : (v * 2 ^ suc m * 2 ^ n + x) % 2 ^ n ≡ x % 2 ^ n = mul-add-mod_self_right (v * 2 ^ suc m) (2 ^ n) x in
    let part : x / 2 ^ n % 2 ^ suc m ≡ x / 2 ^ n = mod-eq_of_lt (shr_lt (suc m) n small) in
    let from : packed 0 0 (spelt n x ++ more) ≡ packed (x % 2 ^ n) n more
    = packed-on n x 0 0 more (omega arith) ∙ ap₂ (λ (a b : ℕ). packed a b more) (omega arith) (omega arith) in
    ap (λ (l : List Letter). packed v k (l ++ more)) (spelt-parts (suc m) n x)
    ∙ ap (packed v k) (append_assoc (spelt (suc m) (x / 2 ^ n)) (spelt n x) more)
    ∙ packed-full m (x / 2 ^ n) v k (spelt n x ++ more) full
    ∙ ap₂ (λ (o : ℕ) (l : List ℕ). o ∷ l) (ap (λ (y : ℕ). v * 2 ^ suc m + y) part) from
    ∙ ap₂ (λ (o y : ℕ). o ∷ packed y n more) (sym (ap (λ (y : ℕ). (y + x) / 2 ^ n) all ∙ high))
    (sym (ap (λ (y : ℕ). (y + x) % 2 ^ n) all ∙ low))

-- ---- what waits, and up to eight bits after it
module _ (w : Waiting) (waits : Waits w) where
  pub packed-spelt : (n x : ℕ) (more : List Letter) → n ≤ 8 → x < 2 ^ n
      → packed w.value w.width (spelt n x ++ more)
      ≡ full_octets (joined w n x) ++ packed (left (joined w n x)).value (left (joined w n x)).width more
  unfolding full_octets left
  packed-spelt n x more few small = by (ltb (w.width + n) 8) refl where
    v : ℕ
    v = w.value

    k : ℕ
    k = w.width

    by : (b : Bool) → ltb (w.width + n) 8 ≡ b
        → packed v k (spelt n x ++ more)
        ≡ cond b [] (((v * 2 ^ n + x) / 2 ^ (k + n - 8)) ∷ [])
        ++ packed (cond b (joined w n x) (record { width = k + n - 8; value = (v * 2 ^ n + x) % 2 ^ (k + n - 8) })).value
        (cond b (joined w n x) (record { width = k + n - 8; value = (v * 2 ^ n + x) % 2 ^ (k + n - 8) })).width more
    by true e =
        packed-on n x v k more (ltb-true (k + n) 8 e)
        ∙ ap (λ (y : ℕ). packed (v * 2 ^ n + y) (k + n) more) (mod-eq_of_lt small)
    by false e =
        let over : 8 ≤ k + n = ltb-false (k + n) 8 e in
        let few' = waits.few in
        let parts : n ≡ suc (7 - k) + (k + n - 8) = omega arith in
        ap (λ (j : ℕ). packed v k (spelt j x ++ more)) parts
        ∙ packed-past (7 - k) (k + n - 8) x v k more (omega arith) (omega arith) (rw (← parts) small)
        ∙ ap (λ (j : ℕ). ((v * 2 ^ j + x) / 2 ^ (k + n - 8)) ∷ packed ((v * 2 ^ j + x) % 2 ^ (k + n - 8)) (k + n - 8) more) (sym parts)

  -- what they make together is a number of as many bits
  pub joined_small : (n x : ℕ) → x < 2 ^ n → (joined w n x).value < 2 ^ (w.width + n)
  joined_small n x small =
      let under : suc w.value * 2 ^ n ≤ 2 ^ w.width * 2 ^ n = mul-le-mul_right (2 ^ n) waits.small in
      rw (pow-add 2 w.width n) (omega (arith, under, add-mul 1 w.value (2 ^ n)))

  -- and less than an octet waits again
  pub waits-left : (n x : ℕ) → n ≤ 8 → x < 2 ^ n → Waits (left (joined w n x))
  unfolding left
  waits-left n x few small = by (ltb (w.width + n) 8) refl where
    by : (b : Bool) → ltb (w.width + n) 8 ≡ b
        → Waits (cond b (joined w n x)
        (record { width = w.width + n - 8; value = (w.value * 2 ^ n + x) % 2 ^ (w.width + n - 8) }))
    by true e = record { few = ltb-true (w.width + n) 8 e; small = joined_small n x small }
    by false e =
        record {
          few = omega (arith, waits.few);
          small = mod-lt (w.value * 2 ^ n + x) (pow_pos (w.width + n - 8));
        }

  -- ---- from a place on: how many octets are filled, and where what waits then ends
  module _ (p : ℕ) (at : p % 8 ≡ w.width) where
    module _ (n x : ℕ) (few : n ≤ 8) where
      pub left_at : (n + p) % 8 ≡ (left (joined w n x)).width
      unfolding left
      left_at = by (ltb (w.width + n) 8) refl where
        by : (b : Bool) → ltb (w.width + n) 8 ≡ b
            → (n + p) % 8
            ≡ (cond b (joined w n x)
            (record { width = w.width + n - 8; value = (w.value * 2 ^ n + x) % 2 ^ (w.width + n - 8) })).width
        by true e = omega (arith, ltb-true (w.width + n) 8 e)
        by false e = omega (arith, ltb-false (w.width + n) 8 e, waits.few)

      pub full_octets-long : p / 8 + length (full_octets (joined w n x)) ≡ (n + p) / 8
      unfolding full_octets
      full_octets-long = by (ltb (w.width + n) 8) refl where
        by : (b : Bool) → ltb (w.width + n) 8 ≡ b
            → p / 8 + length (cond b [] (((w.value * 2 ^ n + x) / 2 ^ (w.width + n - 8)) ∷ [])) ≡ (n + p) / 8
        by true e = omega (arith, ltb-true (w.width + n) 8 e)
        by false e = omega (arith, ltb-false (w.width + n) 8 e, waits.few)

    pub closed-long : p / 8 + length (closed w) ≡ edge p
    unfolding closed
    closed-long = by (ltb 0 w.width) refl where
      by : (b : Bool) → ltb 0 w.width ≡ b → p / 8 + length (cond b ((w.value * 2 ^ (8 - w.width)) ∷ []) []) ≡ edge p
      by true e = omega (arith, ltb-true 0 w.width e)
      by false e = omega (arith, ltb-false 0 w.width e)

    -- zero bits to the octet edge
    pub packed-closed : (more : List Letter) → packed w.value w.width (spelt (gap p) 0 ++ more) ≡ closed w ++ packed 0 0 more
    unfolding closed spelt
    packed-closed more = ap (λ (r : ℕ). packed w.value w.width (spelt ((8 - r) % 8) 0 ++ more)) at
        ∙ by w.width w.value waits.few waits.small where
          by : (k v : ℕ) → k < 8 → v < 2 ^ k
              → packed v k (spelt ((8 - k) % 8) 0 ++ more) ≡ cond (ltb 0 k) ((v * 2 ^ (8 - k)) ∷ []) [] ++ packed 0 0 more
          by zero v few small = let none : v ≡ 0 = omega arith in rw none
          by (suc k) v few small =
              let gap' : (8 - suc k) % 8 ≡ suc (6 - k) = omega arith in
              let is : 8 - suc k ≡ suc (6 - k) = omega arith in
              rw (gap', is, lt-ltb 0 (suc k) (omega arith))
              (packed-full (6 - k) 0 v (suc k) more (omega arith)
              ∙ ap (λ (o : ℕ). o ∷ packed 0 0 more) (omega (arith, zero-mod (2 ^ suc (6 - k)))))

pub none-waits : Waits none_wait
none-waits = record { few = omega arith; small = omega arith }
