-- The loop that takes bits, one turn: the bits that are left, after those that were taken, are the number. Assumes nothing.
use Rattle.std.proofs.Common.{Result, Ok, Err}
use Prim.Native.Nat.{ℕ, suc, ◌+◌, ◌-◌, ◌*◌, ◌^◌, ◌≤◌, ◌<◌}
use mathlib.Core.Path.{◌≡◌, refl, sym, ap, ◌∙◌}
use mathlib.Core.Bool.{Bool, true, false}
use mathlib.Core.List.{List}
use lib.ListN.{length}
use lib.Dec.{ltb}
use lib.Pow.{pow_mono}
use native.Mathlib.Nat.{pow-suc, mul_assoc, mul_comm, add-mul}
use native.Mathlib.Omega.{arith}
use Rattle.length.specs.Refusals.{ends_early}
use Rattle.length.specs.declared.Refusal.{Refusal}
use Rattle.format.specs.Reading.{Finding, found, stopped}
use Rattle.format.specs.Reading as reading
use Rattle.format.specs.Places.{Place}
use Rattle.packet_pencil.specs.Bits.{finding, BitTaken, BitsTaken}

-- the number v before a number in m bits
abbrev ahead : ℕ → ℕ → Finding ℕ → Finding ℕ
ahead v m (found w q) = found (v * 2 ^ m + w) q
ahead v m (stopped r) = stopped r

nothing-ahead : (m : ℕ) (x : Finding ℕ) → x ≡ ahead 0 m x
nothing-ahead m (found w q) = let e : w ≡ 0 * 2 ^ m + w = omega arith in ap (λ (x : ℕ). found x q) e
nothing-ahead m (stopped r) = refl

bit-ahead : (v b m w : ℕ) → v * 2 ^ suc m + (b * 2 ^ m + w) ≡ (v * 2 + b) * 2 ^ m + w
bit-ahead v b m w =
    let up : v * 2 ^ suc m ≡ v * 2 * 2 ^ m
    = ap (λ (x : ℕ). v * x) (pow-suc 2 m ∙ mul_comm (2 ^ m) 2) ∙ sym (mul_assoc v 2 (2 ^ m)) in
    let both : (v * 2 + b) * 2 ^ m ≡ v * 2 * 2 ^ m + b * 2 ^ m = add-mul (v * 2) b (2 ^ m) in
    omega arith

pub record Taking (n : ℕ) (s : List ℕ) (i : ℕ) (p : Place) (value next k : ℕ) : Type 0 where
  pub few : k ≤ n
  pub small : value < 2 ^ k
  pub past : next ≡ p + k
  pub whole : reading.bits n s i p ≡ ahead value (n - k) (reading.bits (n - k) s i next)

module _ {n : ℕ} {s : List ℕ} {i : ℕ} {p : Place} where
  pub taking-start : Taking n s i p 0 p 0
  taking-start =
      let all : n ≡ n - 0 = omega arith in
      record {
        few = omega arith;
        small = omega arith;
        past = omega arith;
        whole = nothing-ahead n (reading.bits n s i p) ∙ ap (λ (m : ℕ). ahead 0 m (reading.bits m s i p)) all;
      }

  module _ {value next k : ℕ} where
    pub taking-turn : {r : Result (ℕ × ℕ) Refusal} {b q : ℕ} → Taking n s i p value next k → k < n → BitTaken s i next r → r ≡ Ok (b, q) → b < 2
        → Taking n s i p (value * 2 + b) q (k + 1)
    unfolding reading.bits
    taking-turn {r} {b} {q} t more told is low =
        let left : n - k ≡ suc (n - (k + 1)) = omega arith in
        let one : q ≡ next + 1 = rw is at told.past in
        let up : 2 ^ (k + 1) ≡ 2 ^ k * 2 = ap (λ (x : ℕ). 2 ^ x) (omega arith) ∙ pow-suc 2 k in
        record {
          few = omega arith;
          small = omega (arith, t.small);
          past = omega (arith, t.past);
          whole = t.whole ∙ ap (λ (m : ℕ). ahead value m (reading.bits m s i next)) left ∙ turned (n - (k + 1));
        } where
          rest : (m : ℕ) (x : Finding ℕ) → ahead value (suc m) (reading.and_then x (λ w z. found (b * 2 ^ m + w) z))
              ≡ ahead (value * 2 + b) m x
          rest m (found w z) = ap (λ (y : ℕ). found y z) (bit-ahead value b m w)
          rest m (stopped x) = refl

          turned : (m : ℕ) → ahead value (suc m) (reading.bits (suc m) s i next) ≡ ahead (value * 2 + b) m (reading.bits m s i q)
          turned m = rw (told.answer, is) (rest m (reading.bits m s i q))

    pub taking-refused : {r : Result (ℕ × ℕ) Refusal} {x : Refusal} → Taking n s i p value next k → k < n → BitTaken s i next r → r ≡ Err x
        → BitsTaken n s i p (Err x)
    unfolding reading.bits
    taking-refused {r} {x} t more told is =
        let left : n - k ≡ suc (n - (k + 1)) = omega arith in
        record {
          answer = t.whole ∙ ap (λ (m : ℕ). ahead value m (reading.bits m s i next)) left ∙ one (n - (k + 1));
          past = tt;
        } where
          one : (m : ℕ) → ahead value (suc m) (reading.bits (suc m) s i next) ≡ stopped x
          one m = rw (told.answer, is)

    pub taking-end : Taking n s i p value next k → n ≤ k → BitsTaken n s i p (Ok (value, next))
    unfolding reading.bits
    taking-end t none =
        let left : n - k ≡ 0 = omega arith in
        let all : k ≡ n = omega (arith, t.few) in
        record {
          answer = t.whole ∙ ap (λ (m : ℕ). ahead value m (reading.bits m s i next)) left ∙ last;
          past = rw (← all) t.past;
        } where
          last : ahead value 0 (reading.bits 0 s i next) ≡ found value next
          last = let e : value * 1 + 0 ≡ value = omega arith in ap (λ (x : ℕ). found x next) e

-- ---- nothing passes what a number holds
-- a bit is 0 or 1
bit-small : {s : List ℕ} {i : ℕ} {p : Place} {r : Result (ℕ × ℕ) Refusal} {b q : ℕ} → BitTaken s i p r → r ≡ Ok (b, q) → b < 2
unfolding reading.bit
bit-small {s} {i} {p} {r} {b} {q} told is = by (ltb p (8 * length s)) refl where
  found-is : reading.bit s i p ≡ found b q
  found-is = told.answer ∙ ap finding is

  by : (x : Bool) → ltb p (8 * length s) ≡ x → b < 2
  by true e =
      let same : found (reading.bit_at s p) (1 + p) ≡ found b q = rw e at found-is in
      let bit : reading.bit_at s p ≡ b = cc in
      omega arith
  by false e =
      let stop : reading.stop ends_early s i p ≡ found b q = rw e at found-is in
      let z : ◌≡◌ {A = ℕ} 0 1 = cc in
      absurd (omega arith)

pub taken-fits : {n : ℕ} {s : List ℕ} {i : ℕ} {p : Place} {value next k : ℕ} → Taking n s i p value next k → k < n → n ≤ 16
    → value * 2 < 2 ^ 64
taken-fits {n} {k = k} t more few = omega (arith, t.small, pow_mono {i = k} {j = 16} (omega arith))

pub one-fits : {n : ℕ} {s : List ℕ} {i : ℕ} {p : Place} {value next k b q : ℕ} {r : Result (ℕ × ℕ) Refusal} → Taking n s i p value next k → k < n → n ≤ 16
    → BitTaken s i next r → r ≡ Ok (b, q) → value * 2 + b < 2 ^ 64
one-fits {n} {k = k} t more few told is = omega (arith, t.small, pow_mono {i = k} {j = 16} (omega arith), bit-small told is)

-- the turn, of any bit
pub taking-next : {n : ℕ} {s : List ℕ} {i : ℕ} {p : Place} {value next k b q : ℕ} {r : Result (ℕ × ℕ) Refusal} → Taking n s i p value next k → k < n
    → BitTaken s i next r → r ≡ Ok (b, q) → Taking n s i p (value * 2 + b) q (k + 1)
taking-next t more told is = taking-turn t more told is (bit-small told is)

pub ruleset takings = (taking-start, taking-next, taking-refused, taking-end, taken-fits, one-fits)
