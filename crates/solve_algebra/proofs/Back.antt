-- The mask of places that go back by m: the places that are taken, with those left, are all of them. Assumes nothing.
use Prim.Native.Nat.{ℕ, suc, ◌+◌, ◌-◌, ◌*◌, ◌^◌, ◌≤◌, ◌<◌}
use mathlib.Core.Path.{◌≡◌, refl, sym, ap, ap₂, ◌∙◌}
use mathlib.Core.List.{List, ◌∷◌}
use lib.Bits.{bit_xor, xor_zero_r}
use native.Mathlib.Nat.{suc-mul}
use native.Mathlib.Omega.{arith}
use Rattle.octets.specs.Place.{tab}
use Rattle.octets.proofs.Laws.{tab-ext, xor_assoc}
use Rattle.solve_algebra.specs.Masks.{mask_places, mask_of, places_back}
use Rattle.solve_algebra.specs.MasksPromise.{OneMade, BackMade}

-- the first of them, then those that go back from there
places_back-suc : (at n m : ℕ) → places_back at (suc n) m ≡ (at - m) ∷ places_back (at - m) n m
unfolding places_back tab
places_back-suc at n m =
    ap₂ (λ (p : ℕ) (l : List ℕ). p ∷ l) (ap (λ (k : ℕ). at - k) {y = m} (omega (arith, suc-mul 0 m)))
    (tab-ext n (λ t. at - suc (suc t) * m) (λ t. at - m - suc t * m) (λ t below. omega (arith, suc-mul (suc t) m)))

mask-suc : (at n m : ℕ) → mask_of (places_back at (suc n) m) ≡ bit_xor (2 ^ (at - m)) (mask_of (places_back (at - m) n m))
unfolding mask_of
mask-suc at n m = ap mask_of (places_back-suc at n m)

mask-none : (at m : ℕ) → mask_of (places_back at 0 m) ≡ 0
unfolding mask_of places_back tab
mask-none at m = refl

-- ---- t of n places are in the mask, and the rest go back from the place come to
pub record Going (at n m mask place t : ℕ) : Type 0 where
  pub few : t ≤ n
  pub reach : (n - t) * m ≤ place
  pub near : place < mask_places + m
  pub left : bit_xor mask (mask_of (places_back place (n - t) m)) ≡ mask_of (places_back at n m)

pub going_start : (at n m : ℕ) → n * m ≤ at → at < mask_places + m → Going at n m 0 at 0
going_start at n m reach near =
    let e : n - 0 ≡ n = omega arith in
    record { few = omega arith; reach = rw e reach; near = near; left = ap (λ (k : ℕ). mask_of (places_back at k m)) e }

pub going-room : {at n m mask place t : ℕ} → Going at n m mask place t → t < n → m ≤ place
going-room {at} {n} {m} {mask} {place} {t} g more =
    let e : n - t ≡ suc (n - (t + 1)) = omega arith in
    let all : suc (n - (t + 1)) * m ≤ place = rw e at g.reach in
    omega (arith, suc-mul (n - (t + 1)) m)

pub going-near : {at n m mask place t next : ℕ} → Going at n m mask place t → t < n → next ≡ place - m → next < mask_places
going-near g more e = omega (arith, g.near, going-room g more)

pub going-turn : {at n m mask place t next single : ℕ} → Going at n m mask place t → t < n → next ≡ place - m
    → OneMade next single → Going at n m (bit_xor mask single) next (t + 1)
going-turn {at} {n} {m} {mask} {place} {t} {next} {single} g more en made =
    let e : n - t ≡ suc (n - (t + 1)) = omega arith in
    let all : suc (n - (t + 1)) * m ≤ place = rw e at g.reach in
    let room = going-room g more in
    record {
      few = omega arith;
      reach = omega (arith, suc-mul (n - (t + 1)) m);
      near = omega (arith, g.near);
      left =
          xor_assoc mask single (mask_of (places_back next (n - (t + 1)) m))
          ∙ ap (bit_xor mask)
          (ap (λ (x : ℕ). bit_xor x (mask_of (places_back next (n - (t + 1)) m))) made.answer
          ∙ ap (λ (q : ℕ). bit_xor (2 ^ q) (mask_of (places_back q (n - (t + 1)) m))) en
          ∙ sym (mask-suc place (n - (t + 1)) m)
          ∙ ap (λ (k : ℕ). mask_of (places_back place k m)) (sym e))
          ∙ g.left;
    }

pub going_done : {at n m mask place t : ℕ} → Going at n m mask place t → n ≤ t → BackMade at n m mask
going_done {at} {n} {m} {mask} {place} {t} g all =
    let e : n - t ≡ 0 = omega arith in
    record {
      answer =
          sym (ap (bit_xor mask) (ap (λ (k : ℕ). mask_of (places_back place k m)) e ∙ mask-none place m) ∙ xor_zero_r mask)
          ∙ g.left;
    }
