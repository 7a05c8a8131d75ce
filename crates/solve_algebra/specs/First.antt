-- An upward search. Definitions only.
use Rattle.std.specs.Prelude.{ℕ, zero, suc, Bool, cond}

-- the first place below n that passes a test; n if none does
unfoldable pub first_passing : ℕ → (ℕ → Bool) → ℕ
first_passing zero test = zero
first_passing (suc n) test = cond (test zero) zero (suc (first_passing n (λ k. test (suc k))))
