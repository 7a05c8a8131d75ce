-- What the parts of a format read at a place, told by the octets there: a flag, bits, and the way to an octet edge. Assumes nothing.
use Prim.Native.Nat.{ℕ, zero, suc, ◌+◌, ◌-◌, ◌*◌, ◌/◌, ◌%◌, ◌^◌, ◌≤◌, ◌<◌}
use mathlib.Core.Path.{◌≡◌, refl, sym, ap, ap₂, ◌∙◌}
use mathlib.Core.Bool.{Bool, true, false, cond}
use mathlib.Core.List.{List, ◌++◌}
use lib.ListN.{length, get_or, drop, get_or-append}
use lib.Dec.{ltb, eqb}
use lib.Pow.{pow-add, shr-shr, low}
use native.Mathlib.Nat.{mul_assoc, mod-one, mod-lt, mod-eq_of_lt, div-add-mod'}
use native.Mathlib.Omega.{arith}
use borrow.Author.Tests.{lt-ltb, le-ltb, ltb-true, ltb-false, eq-eqb, ne_eqb}
use Rattle.length.specs.Refusals.{ends_early, spare_bit}
use Rattle.length.specs.Answers.{Answer, done, refused, refuse_at}
use Rattle.format.specs.Spelling.{wide, gap}
use Rattle.format.specs.Reading.{Finding, found, stopped, and_then, stop, check, bit_at, bit, bits, flag, align, found_from}
use Rattle.format.specs.Reading.{octetwise}
use Rattle.format.specs.Places.{bits_at, edge, edge_at}
use Rattle.format.specs.Format as format
use Rattle.format.proofs.Standing.{low-bits, bit-above, high_bit, stepped, bit-form, bits-form}

-- an answer, and how reading goes on from it
abbrev pub onward : {A B : Type 0} → Answer A → (A → Finding B) → Finding B
onward (done a) next = next a
onward (refused r) next = stopped r

-- ---- one bit
module _ (s : List ℕ) (i p : ℕ) where
  bit-some : p < 8 * length s → bit s i p ≡ found (bit_at s p) (1 + p)
  unfolding bit
  bit-some some = rw (lt-ltb p (8 * length s) some)

  bit_cut : 8 * length s ≤ p → bit s i p ≡ stop ends_early s i p
  unfolding bit
  bit_cut none = rw (le-ltb p (8 * length s) none)

  pub flag-some : p < 8 * length s → flag s i p ≡ found (ltb 0 (bit_at s p)) (1 + p)
  unfolding flag
  flag-some some = rw (bit-some some)

  pub flag-cut : 8 * length s ≤ p → flag s i p ≡ stop ends_early s i p
  unfolding flag
  flag-cut none = rw (bit_cut none)

-- ---- so many bits
high-low : (x m n : ℕ) → x / 2 ^ (m + n) % 2 * 2 ^ n + x / 2 ^ m % 2 ^ n ≡ x / 2 ^ m % 2 ^ suc n
high-low x m n = rw (← shr-shr x m n) (low-bits (x / 2 ^ m) n)

-- the bits before the place `end`, where they are those of a number x, whose lowest bit is the last of them
bits_of : (n : ℕ) (s : List ℕ) (i p end x : ℕ) → ((q : ℕ) → p ≤ q → q < n + p → bit_at s q ≡ x / 2 ^ (end - suc q) % 2) → n + p ≤ end
    → n + p ≤ 8 * length s → bits n s i p ≡ found (x / 2 ^ (end - (n + p)) % 2 ^ n) (n + p)
unfolding bits
bits_of zero s i p end x are before inside = let e : 0 + p ≡ p = omega arith in rw (e, mod-one)
bits_of (suc n) s i p end x are before inside =
    let rest = bits_of n s i (1 + p) end x (λ q from to. are q (omega arith) (omega arith)) (omega arith) (omega arith) in
    let next : n + (1 + p) ≡ suc n + p = omega arith in
    let high : end - suc p ≡ end - (suc n + p) + n = omega arith in
    rw (
      bit-some s i p (omega arith),
      are p (omega arith) (omega arith),
      rest,
      next,
      high,
      high-low x (end - (suc n + p)) n,
    )

-- inside one octet they are bits of that octet
pub bits_in : (n : ℕ) (s : List ℕ) (i p : ℕ) → p % 8 + n ≤ 8 → n + p ≤ 8 * length s
    → bits n s i p ≡ found (get_or s (p / 8) 0 / 2 ^ (8 - (p % 8 + n)) % 2 ^ n) (n + p)
bits_in n s i p few inside =
    let low : 8 * (p / 8) + 8 - (n + p) ≡ 8 - (p % 8 + n) = omega arith in
    rw low at (bits_of n s i p (8 * (p / 8) + 8) (get_or s (p / 8) 0) (λ q from to. here q from to) (omega arith) inside) where
      here : (q : ℕ) → p ≤ q → q < n + p → bit_at s q ≡ get_or s (p / 8) 0 / 2 ^ (8 * (p / 8) + 8 - suc q) % 2
      here q from to =
          let same : q / 8 ≡ p / 8 = omega arith in
          let place : 7 - q % 8 ≡ 8 * (p / 8) + 8 - suc q = omega arith in
          rw (same, place)

-- the bits of two octets, in one number
module _ (a b m : ℕ) where
  in-high : (a * 256 + b % 256) / 2 ^ (8 + m) ≡ a / 2 ^ m
  in-high = let top : (a * 256 + b % 256) / 2 ^ 8 ≡ a = omega arith in sym (shr-shr (a * 256 + b % 256) 8 m) ∙ ap (λ (x : ℕ). x / 2 ^ m) top

  octet-above : (c : ℕ) → m < 8 → (c * 256 + b % 256) / 2 ^ m % 2 ≡ b % 256 / 2 ^ m % 2
  octet-above c few =
      let all : 7 - m + suc m ≡ 8 = omega arith in
      let parts : 256 ≡ 2 ^ (7 - m) * 2 ^ suc m = ap (λ (k : ℕ). 2 ^ k) (sym all) ∙ pow-add 2 (7 - m) (suc m) in
      let is : c * 256 ≡ c * 2 ^ (7 - m) * 2 ^ suc m = ap (λ (k : ℕ). c * k) parts ∙ sym (mul_assoc c (2 ^ (7 - m)) (2 ^ suc m)) in
      ap (λ (k : ℕ). (k + b % 256) / 2 ^ m % 2) is ∙ bit-above m (c * 2 ^ (7 - m)) (b % 256)

  in-low : m < 8 → (a * 256 + b % 256) / 2 ^ m % 2 ≡ b / 2 ^ m % 2
  in-low few = octet-above a few ∙ sym (octet-above (b / 256) few) ∙ ap (λ (k : ℕ). k / 2 ^ m % 2) (div-add-mod' b 256)

in_two : (s : List ℕ) (p q : ℕ) → p ≤ q → q < 8 * (p / 8) + 16
    → bit_at s q ≡ (get_or s (p / 8) 0 * 256 + get_or s (p / 8 + 1) 0 % 256) / 2 ^ (8 * (p / 8) + 16 - suc q) % 2
in_two s p q from to = by (ltb q (8 * (p / 8) + 8)) refl where
  by : (t : Bool) → ltb q (8 * (p / 8) + 8) ≡ t
      → bit_at s q ≡ (get_or s (p / 8) 0 * 256 + get_or s (p / 8 + 1) 0 % 256) / 2 ^ (8 * (p / 8) + 16 - suc q) % 2
  by true e =
      let first = ltb-true q (8 * (p / 8) + 8) e in
      let same : q / 8 ≡ p / 8 = omega arith in
      let place : 8 * (p / 8) + 16 - suc q ≡ 8 + (7 - q % 8) = omega arith in
      rw (same, place, in-high (get_or s (p / 8) 0) (get_or s (p / 8 + 1) 0) (7 - q % 8))
  by false e =
      let second = ltb-false q (8 * (p / 8) + 8) e in
      let same : q / 8 ≡ p / 8 + 1 = omega arith in
      let place : 8 * (p / 8) + 16 - suc q ≡ 7 - q % 8 = omega arith in
      rw (same, place, in-low (get_or s (p / 8) 0) (get_or s (p / 8 + 1) 0) (7 - q % 8) (omega arith))

-- anywhere they are bits of the two octets from there on, of others too that have the same bits there
bits-alike : (n : ℕ) (s t : List ℕ) (i p : ℕ) → ((q : ℕ) → q < n + p → bit_at s q ≡ bit_at t q) → p % 8 + n ≤ 16 → n + p ≤ 8 * length s
    → bits n s i p ≡ found (bits_at n t p) (n + p)
bits-alike n s t i p same few inside =
    let low : 8 * (p / 8) + 16 - (n + p) ≡ 16 - (p % 8 + n) = omega arith in
    rw low at (bits_of n s i p (8 * (p / 8) + 16) (get_or t (p / 8) 0 * 256 + get_or t (p / 8 + 1) 0 % 256)
    (λ q from to. same q to ∙ in_two t p q from (omega arith)) (omega arith) inside)

pub bits-at : (n : ℕ) (s : List ℕ) (i p : ℕ) → p % 8 + n ≤ 16 → n + p ≤ 8 * length s → bits n s i p ≡ found (bits_at n s p) (n + p)
bits-at n s i p few inside = bits-alike n s s i p (λ q to. refl) few inside

-- and what follows the octets does not change them
pub bits-more : (n : ℕ) (s more : List ℕ) (p : ℕ) → p % 8 + n ≤ 16 → n + p ≤ 8 * length s → bits_at n (s ++ more) p ≡ bits_at n s p
bits-more n s more p few inside =
    let alike : (q : ℕ) → q < n + p → bit_at s q ≡ bit_at (s ++ more) q
    = λ q to. ap (λ (x : ℕ). x / 2 ^ (7 - q % 8) % 2) (sym (get_or-append s more 0 (q / 8) (omega arith))) in
    let here = bits-at n s 0 p few inside in
    let there = bits-alike n s (s ++ more) 0 p alike few inside in
    cc

-- if they are not all there, the octets end early
pub bits-cut : (n : ℕ) (s : List ℕ) (i p : ℕ) → 8 * length s ≤ n + p → bits (suc n) s i p ≡ stop ends_early s i p
unfolding bits
bits-cut zero s i p cut = rw (bit_cut s i p (omega arith))
bits-cut (suc n) s i p cut = by (ltb p (8 * length s)) refl (bits-cut n s i (1 + p) (omega arith)) where
  by : (t : Bool) → ltb p (8 * length s) ≡ t → bits (suc n) s i (1 + p) ≡ stop ends_early s i (1 + p)
      → bits (suc (suc n)) s i p ≡ stop ends_early s i p
  by true e rest = rw (bit-some s i p (ltb-true p (8 * length s) e), rest)
  by false e rest = rw (bit_cut s i p (ltb-false p (8 * length s) e))

-- the first of some bits as a flag, and the others
pub record Parted (n : ℕ) (s : List ℕ) (i p v q : ℕ) : Type 0 where
  pub first : flag s i p ≡ found (ltb 0 (v / 2 ^ n % 2)) (1 + p)
  pub others : bits n s i (1 + p) ≡ found (v % 2 ^ n) q

pub parted : (n : ℕ) (s : List ℕ) (i p v q : ℕ) → bits (suc n) s i p ≡ found v q → Parted n s i p v q
unfolding bits flag wide
parted n s i p v q e =
    let one = stepped (bit s i p) _ v q e in
    let more = stepped (bits n s i one.at) _ v q one.gave in
    let is : one.value * 2 ^ n + more.value ≡ v = cc in
    let end : more.at ≡ q = cc in
    let form = bit-form s i p one.value one.at one.was in
    let rest = bits-form n s i one.at more.value more.at more.was in
    let next : one.at ≡ 1 + p = form.spells.next in
    let high : one.value ≡ v / 2 ^ n % 2
    = sym (high_bit n one.value more.value form.small rest.small) ∙ ap (λ (x : ℕ). x / 2 ^ n % 2) is in
    let others : more.value ≡ v % 2 ^ n
    = sym (low one.value n rest.small) ∙ ap (λ (x : ℕ). x % 2 ^ n) is in
    record {
      first = ap (λ (x : Finding ℕ). and_then x (λ b k. found (ltb 0 b) k)) one.was ∙ ap₂ (λ (b k : ℕ). found (ltb 0 b) k) high next;
      others = ap (λ (k : ℕ). bits n s i k) (sym next) ∙ more.was ∙ ap₂ (λ (w k : ℕ). found w k) others end;
    }

-- ---- to an octet edge
padding : (s : List ℕ) (i p : ℕ) → p ≤ 8 * length s → bits (gap p) s i p ≡ found (get_or s (p / 8) 0 % 2 ^ gap p) (8 * edge p)
unfolding bits
padding s i p inside = by (p % 8) refl (mod-lt p {m = 8} (omega arith)) where
  by : (k : ℕ) → p % 8 ≡ k → k < 8 → bits (gap p) s i p ≡ found (get_or s (p / 8) 0 % 2 ^ gap p) (8 * edge p)
  by zero e few =
      let none : (8 - p % 8) % 8 ≡ 0 = omega arith in
      let on : 8 * ((p + 7) / 8) ≡ p = omega arith in
      rw (none, on, mod-one)
  by (suc k) e few =
      let wide : (8 - p % 8) % 8 ≡ 8 - suc k = rw e (mod-eq_of_lt (omega arith)) in
      let all : 8 - (p % 8 + (8 - suc k)) ≡ 0 = omega arith in
      let one : get_or s (p / 8) 0 / 2 ^ 0 ≡ get_or s (p / 8) 0 = omega arith in
      let next : 8 - suc k + p ≡ 8 * ((p + 7) / 8) = omega arith in
      rw (wide, bits_in (8 - suc k) s i p (omega arith) (omega arith), all, one, next)

pub edge-at : (s : List ℕ) (i p : ℕ) → p ≤ 8 * length s → align s i p ≡ onward (edge_at s p) (λ at. found tt (8 * at))
unfolding align edge_at
edge-at s i p inside = rw (padding s (p / 8) p inside) (by (ltb 0 (get_or s (p / 8) 0 % 2 ^ gap p)) refl) where
  by : (t : Bool) → ltb 0 (get_or s (p / 8) 0 % 2 ^ gap p) ≡ t
      → check spare_bit (eqb (get_or s (p / 8) 0 % 2 ^ gap p) 0) s (p / 8) (8 * edge p)
      ≡ onward (cond t (refuse_at (p / 8) spare_bit) (done (edge p))) (λ at. found tt (8 * at))
  by true e = let set = ltb-true 0 (get_or s (p / 8) 0 % 2 ^ gap p) e in
      rw (ne_eqb (get_or s (p / 8) 0 % 2 ^ gap p) 0 (λ (z : get_or s (p / 8) 0 % 2 ^ gap p ≡ 0). omega arith))
  by false e = rw (eq-eqb (get_or s (p / 8) 0 % 2 ^ gap p) 0 (omega (arith, ltb-false 0 (get_or s (p / 8) 0 % 2 ^ gap p) e)))

module _ {A : Type 0} (front : List ℕ → Finding A) (octets : A → List ℕ) (right : A → Type 0) (s : List ℕ) (i : ℕ) where
  -- whole octets, from the edge at a place or after it on
  pub octetwise-at : (p : ℕ) → p ≤ 8 * length s → (format.octetwise front octets right).read s i p
      ≡ onward (edge_at s p) (λ at. and_then (found_from at (front (drop at s))) (λ a n. found a (8 * n + 8 * at)))
  unfolding octetwise
  octetwise-at p inside = rw (edge-at s i p inside) (by (edge_at s p)) where
    by : (x : Answer ℕ) → and_then {A = Unit {0}} (onward x (λ at. found tt (8 * at))) (λ _ q. octetwise front s (q / 8) q)
        ≡ onward x (λ at. and_then (found_from at (front (drop at s))) (λ a n. found a (8 * n + 8 * at)))
    by (done at) =
        let octet : 8 * at / 8 ≡ at = omega arith in
        rw octet
    by (refused r) = refl

  -- and at an edge
  pub octetwise-edge : (at : ℕ) → (format.octetwise front octets right).read s i (8 * at)
      ≡ and_then (found_from at (front (drop at s))) (λ a n. found a (8 * n + 8 * at))
  unfolding align bits octetwise
  octetwise-edge at =
      let none : (8 - 8 * at % 8) % 8 ≡ 0 = omega arith in
      let octet : 8 * at / 8 ≡ at = omega arith in
      rw (none, octet)
