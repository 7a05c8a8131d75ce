-- Sums by exclusive or over the columns that a row has. Definitions only.
use Rattle.std.specs.Prelude.{ℕ, zero, suc, Bool, not, cond, ◌&&◌, eqb}
use Rattle.std.specs.Int.Bits.{bit_xor}

-- the exclusive or of the values in the columns below n that the row has
unfoldable pub sum_over : ℕ → (ℕ → Bool) → (ℕ → ℕ) → ℕ
sum_over zero row values = 0
sum_over (suc n) row values = bit_xor (sum_over n row values) (cond (row n) (values n) 0)

-- a row without one of its columns
abbrev pub without : (ℕ → Bool) → ℕ → (ℕ → Bool)
without row c k = row k && not (eqb k c)

-- one in column q, zero in all others
abbrev pub one_at : ℕ → (ℕ → ℕ)
one_at q c = cond (eqb c q) 1 0
