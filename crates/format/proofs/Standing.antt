-- What is spelt stands in some octets, and what a reader makes of it: numbers and their bits. Assumes nothing.
use Prim.Native.Nat.{ℕ, zero, suc, ◌+◌, ◌-◌, ◌*◌, ◌/◌, ◌%◌, ◌^◌, ◌≤◌, ◌<◌}
use mathlib.Core.Path.{◌≡◌, refl, sym, ap, subst, ◌∙◌}
use mathlib.Core.Bool.{Bool, true, false, cond}
use mathlib.Core.List.{List, [], ◌∷◌, ◌++◌}
use lib.ListN.{length, get_or}
use lib.Dec.{ltb}
use lib.Arith.{digits_lt}
use lib.Pow.{pow_pos, high, mod-pow-add}
use native.Mathlib.Nat.{pow-suc, mul_assoc, mul_comm, mod-lt, mul-add-mod_self_right, mul-add-div_right, mod-one, mod-eq_of_lt}
use native.Mathlib.Omega.{arith}
use borrow.Author.Tests.{lt-ltb, ltb-true}
use Rattle.length.specs.Refusals.{ends_early}
use Rattle.length.specs.declared.Reason.{Reason}
use Rattle.format.specs.Spelling.{Letter, bit, octet, spelt, whole, wide, gap}
use Rattle.format.specs.Reading.{Finding, found, stopped, and_then, Reader, ◌>>=◌, give, stop, check, bit_at}
use Rattle.format.specs.Reading as reading
use Rattle.format.specs.Places.{edge}

-- ---- what stands where
-- some octets, from a place on, begin with these letters
unfoldable pub Stands : List ℕ → ℕ → List Letter → Type 0
Stands s p [] = Unit {0}
Stands s p (bit b ∷ letters) = (p < 8 * length s) × (bit_at s p ≡ b) × Stands s (1 + p) letters
Stands s p (octet x ∷ letters) = (p % 8 ≡ 0) × (p / 8 < length s) × (get_or s (p / 8) 0 ≡ x) × Stands s (8 + p) letters

pub wide-append : (a b : List Letter) → wide (a ++ b) ≡ wide a + wide b
unfolding wide
wide-append [] b = omega arith
wide-append (bit x ∷ a) b = omega (arith, wide-append a b)
wide-append (octet x ∷ a) b = omega (arith, wide-append a b)

pub wide-whole : (l : List ℕ) → wide (whole l) ≡ 8 * length l
unfolding wide whole
wide-whole [] = refl
wide-whole (x ∷ l) = omega (arith, wide-whole l)

pub stands-join : (s : List ℕ) (p : ℕ) (a b : List Letter) → Stands s p a → Stands s (wide a + p) b → Stands s p (a ++ b)
unfolding Stands wide
stands-join s p [] b x y = let e : 0 + p ≡ p = omega arith in rw e at y
stands-join s p (bit c ∷ a) b x y =
    let e : 1 + wide a + p ≡ wide a + (1 + p) = omega arith in
    (x.0, x.1, stands-join s (1 + p) a b x.2 (rw e at y))
stands-join s p (octet c ∷ a) b x y =
    let e : 8 + wide a + p ≡ wide a + (8 + p) = omega arith in
    (x.0, x.1, x.2, stands-join s (8 + p) a b x.3 (rw e at y))

pub stands-left : (s : List ℕ) (p : ℕ) (a b : List Letter) → Stands s p (a ++ b) → Stands s p a
unfolding Stands
stands-left s p [] b x = tt
stands-left s p (bit c ∷ a) b x = (x.0, x.1, stands-left s (1 + p) a b x.2)
stands-left s p (octet c ∷ a) b x = (x.0, x.1, x.2, stands-left s (8 + p) a b x.3)

pub stands-right : (s : List ℕ) (p : ℕ) (a b : List Letter) → Stands s p (a ++ b) → Stands s (wide a + p) b
unfolding Stands wide
stands-right s p [] b x = let e : 0 + p ≡ p = omega arith in rw e x
stands-right s p (bit c ∷ a) b x =
    let e : wide a + (1 + p) ≡ 1 + wide a + p = omega arith in
    rw e at (stands-right s (1 + p) a b x.2)
stands-right s p (octet c ∷ a) b x =
    let e : wide a + (8 + p) ≡ 8 + wide a + p = omega arith in
    rw e at (stands-right s (8 + p) a b x.3)

pub stands-inside : (s : List ℕ) (p : ℕ) (letters : List Letter) → p ≤ 8 * length s → Stands s p letters → wide letters + p ≤ 8 * length s
unfolding Stands wide
stands-inside s p [] h st = omega arith
stands-inside s p (bit b ∷ letters) h st =
    let here = st.0 in
    let rest = stands-inside s (1 + p) letters (omega arith) st.2 in
    omega arith
stands-inside s p (octet x ∷ letters) h st =
    let edge = st.0 in
    let here = st.1 in
    let rest = stands-inside s (8 + p) letters (omega arith) st.3 in
    omega arith

-- ---- a reader reads these letters as this value
pub record Reads {A : Type 0} (r : Reader A) (p : ℕ) (a : A) (letters : List Letter) : Type 0 where
  pub reads : (s : List ℕ) (i : ℕ) → Stands s p letters → r s i p ≡ found a (wide letters + p)

module _ {A B : Type 0} where
  pub reads-bind : {r : Reader A} (next : A → Reader B) {p : ℕ} {a : A} {b : B} {bs cs : List Letter}
      → Reads r p a bs → Reads (next a) (wide bs + p) b cs → Reads (◌>>=◌ r next) p b (bs ++ cs)
  reads-bind {r} next {p} {a} {b} {bs} {cs} x y =
      record {
        reads =
            λ s i st.
            let first = x.reads s i (stands-left s p bs cs st) in
            let e : wide cs + (wide bs + p) ≡ wide (bs ++ cs) + p = omega (arith, wide-append bs cs) in
            rw first (y.reads s i (stands-right s p bs cs st) ∙ ap (found b) e);
      }

  -- a value, and what is made of it
  pub reads_made : {r : Reader A} (make : A → B) {p : ℕ} {a : A} {letters : List Letter} → Reads r p a letters
      → Reads (do x ← r; give (make x)) p (make a) letters
  reads_made make x = record { reads = λ s i st. rw (x.reads s i st) }

module _ {A : Type 0} where
  pub reads-give : {p : ℕ} {a : A} → Reads (give a) p a []
  unfolding wide
  reads-give {p} {a} = record { reads = λ s i st. ap (found a) (omega arith) }

pub reads-bit : {p b : ℕ} → Reads reading.bit p b (bit b ∷ [])
unfolding reading.bit Stands wide
reads-bit {p} {b} = record { reads = λ s i st. rw (lt-ltb p (8 * length s) st.0, st.1) }

-- ---- numbers and their bits
pub gap-past : (p : ℕ) → gap p + p ≡ 8 * edge p
gap-past p = by (p % 8) refl (mod-lt p {m = 8} (omega arith)) where
  by : (r : ℕ) → p % 8 ≡ r → r < 8 → (8 - p % 8) % 8 + p ≡ 8 * edge p
  by zero e h = rw e (omega arith)
  by (suc r) e h =
      let small : (8 - suc r) % 8 ≡ 8 - suc r = mod-eq_of_lt (omega arith) in
      rw (e, small) (omega arith)

pub wide-spelt : (n v : ℕ) → wide (spelt n v) ≡ n
unfolding spelt wide
wide-spelt zero v = refl
wide-spelt (suc n) v = let e = wide-spelt n v in omega arith

-- the lowest bits of a number, by its lowest bits but one and that one
pub low-bits : (v n : ℕ) → v / 2 ^ n % 2 * 2 ^ n + v % 2 ^ n ≡ v % 2 ^ suc n
low-bits v n = let e : 1 + n ≡ suc n = omega arith in sym (mod-pow-add v 1 n) ∙ ap (λ (k : ℕ). v % 2 ^ k) e

-- twice as many of half the size
twice : (a n : ℕ) → a * 2 ^ suc n ≡ a * 2 * 2 ^ n
twice a n = ap (λ (x : ℕ). a * x) (pow-suc 2 n ∙ mul_comm (2 ^ n) 2) ∙ sym (mul_assoc a 2 (2 ^ n))

-- what is above a bit does not count
pub bit-above : (n a v : ℕ) → (a * 2 ^ suc n + v) / 2 ^ n % 2 ≡ v / 2 ^ n % 2
bit-above n a v = rw (twice a n, mul-add-div_right (pow_pos n) (a * 2) v) (mul-add-mod_self_right a 2 (v / 2 ^ n))

pub spelt-above : (n a v : ℕ) → spelt n (a * 2 ^ n + v) ≡ spelt n v
unfolding spelt
spelt-above zero a v = refl
spelt-above (suc n) a v = rw (bit-above n a v, twice a n, spelt-above n (a * 2) v)

-- the lowest bits of a number, spelt, read as that number
reads-low : (n v : ℕ) {p : ℕ} → Reads (reading.bits n) p (v % 2 ^ n) (spelt n v)
unfolding reading.bits spelt
reads-low zero v = rw (mod-one v) reads-give
reads-low (suc n) v {p} =
    let both : Reads (reading.bits (suc n)) p (v / 2 ^ n % 2 * 2 ^ n + v % 2 ^ n) (spelt (suc n) v)
    = reads-bind _ reads-bit (reads_made (λ w. v / 2 ^ n % 2 * 2 ^ n + w) (reads-low n v)) in
    subst (λ (w : ℕ). Reads (reading.bits (suc n)) p w (spelt (suc n) v)) (low-bits v n) both

pub reads-spelt : (n : ℕ) {p v : ℕ} → v < 2 ^ n → Reads (reading.bits n) p v (spelt n v)
reads-spelt n {p} {v} small = rw (mod-eq_of_lt small) at (reads-low n v {p = p})

-- ---- what was read stands there
module _ {A B : Type 0} where
  -- the step that came first was done, and the next one with its value
  pub record Stepped (first : Finding A) (next : A → ℕ → Finding B) (b : B) (q : ℕ) : Type 0 where
    pub value : A
    pub at : ℕ
    pub was : first ≡ found value at
    pub gave : next value at ≡ found b q

  pub stepped : (first : Finding A) (next : A → ℕ → Finding B) (b : B) (q : ℕ) → and_then first next ≡ found b q → Stepped first next b q
  stepped (found a p) next b q e = record { value = a; at = p; was = refl; gave = e }
  stepped (stopped r) next b q e = let z : ◌≡◌ {A = ℕ} 0 1 = cc in absurd (omega arith)

-- a check that was passed
pub record Passed (test : Bool) (p q : ℕ) : Type 0 where
  pub holds : test ≡ true
  pub stays : q ≡ p

pub passed : (n : Reason) (test : Bool) (s : List ℕ) (i p : ℕ) (u : Unit {0}) (q : ℕ) → check n test s i p ≡ found u q → Passed test p q
passed n true s i p u q e = record { holds = refl; stays = cc }
passed n false s i p u q e = let z : ◌≡◌ {A = ℕ} 0 1 = cc in absurd (omega arith)

pub record Spells (s : List ℕ) (p q : ℕ) (letters : List Letter) : Type 0 where
  pub stands : Stands s p letters
  pub next : q ≡ wide letters + p

pub spells-none : {s : List ℕ} {p q : ℕ} → p ≡ q → Spells s p q []
unfolding Stands wide
spells-none next = record { stands = tt; next = omega arith }

pub spells-join : {s : List ℕ} {p m q : ℕ} {a b : List Letter} → Spells s p m a → Spells s m q b → Spells s p q (a ++ b)
spells-join {s} {p} {m} {q} {a} {b} x y =
    record {
      stands = stands-join s p a b x.stands (rw x.next at y.stands);
      next = omega (arith, wide-append a b, x.next, y.next);
    }

pub record BitForm (s : List ℕ) (p b q : ℕ) : Type 0 where
  pub spells : Spells s p q (bit b ∷ [])
  pub small : b < 2

pub bit-form : (s : List ℕ) (i p b q : ℕ) → reading.bit s i p ≡ found b q → BitForm s p b q
unfolding reading.bit Stands wide
bit-form s i p b q e = by (ltb p (8 * length s)) refl e where
  by : (t : Bool) → ltb p (8 * length s) ≡ t → cond t (found (bit_at s p) (1 + p)) (stop ends_early s i p) ≡ found b q → BitForm s p b q
  by true was e =
      let same : bit_at s p ≡ b = cc in
      let next : 1 + p ≡ q = cc in
      record {
        spells = record { stands = (ltb-true p (8 * length s) was, same, tt); next = sym next };
        small = rw same at (mod-lt (get_or s (p / 8) 0 / 2 ^ (7 - p % 8)) {m = 2} (omega arith));
      }
  by false was e = let z : ◌≡◌ {A = ℕ} 0 1 = cc in absurd (omega arith)

pub record BitsForm (s : List ℕ) (n p v q : ℕ) : Type 0 where
  pub spells : Spells s p q (spelt n v)
  pub small : v < 2 ^ n

-- the highest of so many bits
pub high_bit : (n b w : ℕ) → b < 2 → w < 2 ^ n → (b * 2 ^ n + w) / 2 ^ n % 2 ≡ b
high_bit n b w one rest = ap (λ (x : ℕ). x % 2) (high b n rest) ∙ mod-eq_of_lt one

bits-next : (n : ℕ) {s : List ℕ} {p b m w q : ℕ} → BitForm s p b m → BitsForm s n m w q → BitsForm s (suc n) p (b * 2 ^ n + w) q
unfolding spelt
bits-next n {s} {p} {b} {m} {w} {q} one rest =
    record {
      spells = rw (high_bit n b w one.small rest.small, spelt-above n b w) (spells-join one.spells rest.spells);
      small = rw (pow-suc 2 n, mul_comm (2 ^ n) 2) (digits_lt one.small rest.small);
    }

bits-same : {s : List ℕ} {n p v w q r : ℕ} → BitsForm s n p v q → v ≡ w → q ≡ r → BitsForm s n p w r
bits-same form is next = rw (← is, ← next) form

pub bits-form : (n : ℕ) (s : List ℕ) (i p v q : ℕ) → reading.bits n s i p ≡ found v q → BitsForm s n p v q
unfolding reading.bits spelt
bits-form zero s i p v q e =
    let zero : 0 ≡ v = cc in
    let next : p ≡ q = cc in
    record { spells = spells-none next; small = rw (sym zero) (omega arith) }
bits-form (suc n) s i p v q e =
    let first = stepped (reading.bit s i p) _ v q e in
    let second = stepped (reading.bits n s i first.at) _ v q first.gave in
    let is : first.value * 2 ^ n + second.value ≡ v = cc in
    let next : second.at ≡ q = cc in
    let form =
    bits-next n (bit-form s i p first.value first.at first.was)
    (bits-form n s i first.at second.value second.at second.was) in
    bits-same form is next
