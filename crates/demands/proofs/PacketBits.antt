-- Bits at a place: octets before them change nothing, and the padding before an octet edge is the low end of an octet. Assumes
-- nothing.
use Prim.Native.Nat.{ℕ, ◌+◌, ◌-◌, ◌*◌, ◌/◌, ◌%◌, ◌^◌, ◌≤◌, ◌<◌}
use mathlib.Core.Path.{◌≡◌, sym, ap, ◌∙◌}
use mathlib.Core.Logic.{◌⊎◌, inl, inr}
use mathlib.Core.List.{List, ◌++◌}
use lib.ListN.{length, get_or}
use lib.Seq.{get_or-drop, drop-append_seam}
use native.Mathlib.Nat.{mod-one, mod-eq_of_lt}
use native.Mathlib.Omega.{arith}
use Rattle.octets.proofs.Laws.{below_or_not}
use Rattle.format.specs.Spelling.{gap}
use Rattle.format.specs.Places.{Place, bits_at}

pub bits-behind : (n : ℕ) (s octets : List ℕ) (p : Place) → bits_at n (s ++ octets) (8 * length s + p) ≡ bits_at n octets p
bits-behind n s octets p =
    let here : (8 * length s + p) / 8 ≡ length s + p / 8 = omega arith in
    let next : (8 * length s + p) / 8 + 1 ≡ length s + (p / 8 + 1) = omega arith in
    let in-octet : (8 * length s + p) % 8 ≡ p % 8 = omega arith in
    rw (next, here, in-octet, there (p / 8), there (p / 8 + 1)) where
      there : (i : ℕ) → get_or (s ++ octets) (length s + i) 0 ≡ get_or octets i 0
      there i = sym (get_or-drop (length s) (s ++ octets) i 0) ∙ ap (λ (l : List ℕ). get_or l i 0) (drop-append_seam s octets)

-- the low end of the first of two octets
low_end : (a b m : ℕ) → (a * 256 + b % 256) / 2 ^ 8 % 2 ^ m ≡ a % 2 ^ m
low_end a b m = let high : (a * 256 + b % 256) / 2 ^ 8 ≡ a = omega arith in ap (λ (x : ℕ). x % 2 ^ m) high

pub padding-bits : (s : List ℕ) (p : Place) → bits_at (gap p) s p ≡ get_or s (p / 8) 0 % 2 ^ gap p
padding-bits s p = by (below_or_not 0 (p % 8)) where
  by : (0 < p % 8) ⊎ (p % 8 ≤ 0) → bits_at (gap p) s p ≡ get_or s (p / 8) 0 % 2 ^ gap p
  by (inl begun) =
      let is : gap p ≡ 8 - p % 8 = mod-eq_of_lt (omega arith) in
      let eight : 16 - (p % 8 + gap p) ≡ 8 = omega arith in
      ap (λ (k : ℕ). (get_or s (p / 8) 0 * 256 + get_or s (p / 8 + 1) 0 % 256) / 2 ^ k % 2 ^ gap p) eight
      ∙ low_end (get_or s (p / 8) 0) (get_or s (p / 8 + 1) 0) (gap p)
  by (inr edge) =
      let e : p % 8 ≡ 0 = omega arith in
      rw e (mod-one _ ∙ sym (mod-one _))
