-- A test that passes and does not, and the greatest value before the base. Assumes nothing.
use Rattle.std.proofs.Common.{◌≡◌, ℕ, ◌≤◌, Bool, true, false, arith}
use Rattle.image.specs.Layout.{from_base}

-- a test that passes and does not
pub contrary : {A : Type 0} {b : Bool} → b ≡ true → b ≡ false → A
contrary so never = let z : ◌≡◌ {A = ℕ} 0 1 = cc in absurd (omega arith)

pub base-most : (ahead : Bool) (most : ℕ) → from_base ahead most ≤ most
base-most true most = omega arith
base-most false most = omega arith
