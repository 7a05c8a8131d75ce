-- One law for each answer of the functions that read at a place in bits, in the words of the code: the tests that led there
-- give the promise. Assumes nothing.
use Rattle.std.proofs.Common.{Result, Ok, Err}
use Prim.Native.Nat.{ℕ, ◌+◌, ◌-◌, ◌*◌, ◌/◌, ◌%◌, ◌^◌, ◌≤◌, ◌<◌}
use mathlib.Core.Path.{◌≡◌, sym, ap, ap₂, ◌∙◌}
use mathlib.Core.List.{List}
use lib.ListN.{length, get_or, get_or-eq_default}
use lib.Pow.{pow_pos, shl_exact, shr-shr}
use lib.Dec.{ltb}
use native.Mathlib.Nat.{mod-lt}
use native.Mathlib.Omega.{arith}
use borrow.Author.Tests.{lt-ltb, le-ltb}
use Rattle.length.specs.Refusals.{spare_bit}
use Rattle.length.specs.Answers.{done}
use Rattle.length.specs.Promise.{Octet, RefusalPlaced}
use Rattle.length.specs.declared.Refusal.{Refusal}
use Rattle.packet_laws.proofs.Laws.{edge-inside}
use Rattle.format.specs.Places.{Place, edge_at}
use Rattle.packet_reader.specs.Items.{InPacket, Power, OctetAt, BitTold, BitsTold, EdgeTold, outcome}

pub power-told : {n : ℕ} → n ≤ 8 → Power n (1 * 2 ^ n % 2 ^ 64)
power-told {n} few =
    let is : 1 * 2 ^ n % 2 ^ 64 ≡ 2 ^ n = shl_exact 1 n 64 (omega arith) (omega arith) ∙ omega arith in
    record { is = is; some = omega (arith, pow_pos n) }

pub octet-some : {s : List ℕ} {at r : ℕ} → Octet (get_or s at 0) r → OctetAt s at r
octet-some octet = record { same = octet.same; small = octet.small }

pub octet-none : {s : List ℕ} {at : ℕ} → length s ≤ at → OctetAt s at 0
octet-none {s} past = record { same = sym (get_or-eq_default s 0 past); small = omega arith }

-- a bit by the one octet that holds it
bit_high : (a b m : ℕ) → (a * 256 + b % 256) / 2 ^ (8 + m) ≡ a / 2 ^ m
bit_high a b m =
    let top : (a * 256 + b % 256) / 2 ^ 8 ≡ a = omega arith in
    sym (shr-shr (a * 256 + b % 256) 8 m) ∙ ap (λ (x : ℕ). x / 2 ^ m) top

pub bit-told : {s : List ℕ} {p a : ℕ} → OctetAt s (p / 8) a → BitTold s p (ltb 0 (a / 2 ^ (7 - p % 8) % 2))
bit-told {s} {p} octet =
    let below : 16 - (p % 8 + 1) ≡ 8 + (7 - p % 8) = omega (arith, mod-lt p {m = 8} (omega arith)) in
    record { answer = rw (octet.same, below, bit_high (get_or s (p / 8) 0) (get_or s (p / 8 + 1) 0) (7 - p % 8)) }

pub bits-told : {s : List ℕ} {n p a b v : ℕ} → OctetAt s (p / 8) a → OctetAt s (p / 8 + 1) b → Power n v
    → BitsTold n s p ((a * 256 + b) / 2 ^ (16 - (p % 8 + n)) % v)
bits-told {s} {n} {p} {a} {b} first second values =
    let low : b ≡ get_or s (p / 8 + 1) 0 % 256 = omega (arith, second.same, second.small) in
    let window = ap₂ (λ (x y : ℕ). x * 256 + y) first.same low in
    record { answer = ap₂ (λ (x y : ℕ). x / 2 ^ (16 - (p % 8 + n)) % y) window values.is }

module _ {s : List ℕ} {p a v : ℕ} (octet : OctetAt s (p / 8) a) (values : Power ((8 - p % 8) % 8) v) where
  pub edge-set : {r : Refusal} → 0 < a % v → RefusalPlaced spare_bit (p / 8) r → EdgeTold s p (Err r)
  unfolding edge_at
  edge-set set made =
      let h : 0 < get_or s (p / 8) 0 % 2 ^ ((8 - p % 8) % 8) = rw (octet.same, values.is) at set in
      record { answer = rw (made.answer, lt-ltb 0 _ h) }

  pub edge-told : a % v ≤ 0 → EdgeTold s p (Ok ((p + 7) / 8))
  unfolding edge_at
  edge-told zeros =
      let h : get_or s (p / 8) 0 % 2 ^ ((8 - p % 8) % 8) ≤ 0 = rw (octet.same, values.is) at zeros in
      record { answer = rw (le-ltb 0 _ h) }

-- what an edge that was read says
module _ {s : List ℕ} {p : Place} {r : Result ℕ Refusal} {at : ℕ} (told : EdgeTold s p r) (is : r ≡ Ok at) where
  pub edge-is : edge_at s p ≡ done at
  edge-is = sym told.answer ∙ ap (outcome (λ (n : ℕ). n)) is

  pub edge-within : InPacket s p → at ≤ length s
  edge-within inside = edge-inside s p at inside.here edge-is

pub ruleset places = (power-told, octet-some, octet-none, bit-told, bits-told, edge-set, edge-told)
