-- Two cases that a proof goes by, one or the other. Assumes nothing.
use Prim.Native.Nat.{ℕ, ◌≤◌, ◌<◌}
use mathlib.Core.Path.{◌≡◌, refl}
use mathlib.Core.Bool.{Bool, true, false, ◌&&◌, ◌||◌, false≢true}
use mathlib.Core.Logic.{◌⊎◌, inl, inr}
use lib.Dec.{ltb, eqb}
use borrow.Author.Tests.{ltb-true, ltb-false, eqb-true, eqb-false}

-- below k, or not
pub below_or_not : (n k : ℕ) → (n < k) ⊎ (k ≤ n)
below_or_not n k = pick (ltb n k) refl where
  pick : (b : Bool) → ltb n k ≡ b → (n < k) ⊎ (k ≤ n)
  pick true e = inl (ltb-true n k e)
  pick false e = inr (ltb-false n k e)

-- equal, or not
pub same_or_not : (n k : ℕ) → (n ≡ k) ⊎ (n ≡ k → ⊥)
same_or_not n k = pick (eqb n k) refl where
  pick : (b : Bool) → eqb n k ≡ b → (n ≡ k) ⊎ (n ≡ k → ⊥)
  pick true e = inl (eqb-true n k e)
  pick false e = inr (eqb-false n k e)

-- a test passes, or not
pub true-or-false : (b : Bool) → (b ≡ true) ⊎ (b ≡ false)
true-or-false true = inl refl
true-or-false false = inr refl

-- two tests joined
pub and_left : (a b : Bool) → (a && b) ≡ true → a ≡ true
and_left true b e = refl
and_left false b e = e

pub and_right : (a b : Bool) → (a && b) ≡ true → b ≡ true
and_right true b e = e
and_right false b e = absurd (false≢true e)

pub and_both : {a b : Bool} → a ≡ true → b ≡ true → (a && b) ≡ true
and_both p q = rw (p, q)

pub or-true : (b : Bool) → (b || true) ≡ true
or-true true = refl
or-true false = refl
