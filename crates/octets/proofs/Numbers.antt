-- Laws of words: of octets and their word, and of the exclusive or, which goes octet by octet. Assumes nothing.
use Prim.Native.Nat.{ℕ, zero, suc, ◌+◌, ◌*◌, ◌≤◌, ◌<◌}
use mathlib.Core.Path.{◌≡◌, refl, sym, ap₂, ◌∙◌}
use mathlib.Core.Logic.{⊎_elim}
use mathlib.Core.List.{List}
use lib.ListN.{get_or}
use lib.Bits.{bit_xor, xor_block}
use native.Mathlib.Omega.{arith}
use Rattle.octets.proofs.Laws.{same_or_not}
use Rattle.octets.specs.Words.{word_of, OctetsAt}

-- ---- octets and their word
-- the same word, the same octets
digits : (x y v w : ℕ) → x < 256 → y < 256 → x + 256 * v ≡ y + 256 * w → (x ≡ y) × (v ≡ w)
digits x y v w hx hy e = (omega arith, omega arith)

pub octets-same : (n : ℕ) (s t : List ℕ) (at : ℕ) → OctetsAt n s at → OctetsAt n t at → word_of n s at ≡ word_of n t at → (j : ℕ) → at ≤ j
    → j < at + n → get_or s j 0 ≡ get_or t j 0
unfolding word_of
octets-same zero s t at os ot e j from to = absurd (omega arith)
octets-same (suc n) s t at os ot e j from to =
    let parts = digits (get_or s at 0) (get_or t at 0) (word_of n s (suc at)) (word_of n t (suc at)) (os at (omega arith) (omega arith))
    (ot at (omega arith) (omega arith)) e in
    ⊎_elim (λ here. rw here parts.0)
    (λ other.
    octets-same n s t (suc at) (λ k low high. os k (omega arith) (omega arith)) (λ k low high. ot k (omega arith) (omega arith)) parts.1
    j (omega arith) (omega arith))
    (same_or_not j at)

-- ---- the exclusive or of two words is that of their octets
xor-octets : (x y v w : ℕ) → x < 256 → y < 256 → bit_xor (x + 256 * v) (y + 256 * w) ≡ bit_xor x y + 256 * bit_xor v w
xor-octets x y v w hx hy =
    ap₂ bit_xor (turned x v) (turned y w) ∙ xor_block 8 v w x y hx hy ∙ sym (turned (bit_xor x y) (bit_xor v w))
  where
    turned : (a b : ℕ) → a + 256 * b ≡ b * 256 + a
    turned a b = omega arith

pub word-xor : (n : ℕ) (s t r : List ℕ) (at : ℕ) → OctetsAt n s at → OctetsAt n t at
    → ((j : ℕ) → at ≤ j → j < at + n → get_or r j 0 ≡ bit_xor (get_or s j 0) (get_or t j 0))
    → word_of n r at ≡ bit_xor (word_of n s at) (word_of n t at)
unfolding word_of
word-xor zero s t r at os ot each = refl
word-xor (suc n) s t r at os ot each =
    ap₂ (λ (x y : ℕ). x + 256 * y) (each at (omega arith) (omega arith))
    (word-xor n s t r (suc at) (λ k low high. os k (omega arith) (omega arith)) (λ k low high. ot k (omega arith) (omega arith))
    (λ j low high. each j (omega arith) (omega arith)))
    ∙ sym
    (xor-octets (get_or s at 0) (get_or t at 0) (word_of n s (suc at)) (word_of n t (suc at)) (os at (omega arith) (omega arith))
    (ot at (omega arith) (omega arith)))
