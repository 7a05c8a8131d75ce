-- Pairing by the numbers alone: how often a number occurs in a list, and where (rule 22.10). Definitions only.
use Rattle.std.specs.Prelude.{ℕ, suc, ◌≤◌, ◌<◌, ◌≡◌, cond, List, [], ◌∷◌, length, get_or, take, eqb}

-- how often a number occurs in a list
unfoldable pub often : ℕ → List ℕ → ℕ
often number [] = 0
often number (n ∷ numbers) = cond (eqb n number) (suc (often number numbers)) (often number numbers)

-- the place of the number's occurrence that k others precede, or the end of the list
pub record KthPlace (numbers : List ℕ) (number k r : ℕ) : Type 0 where
  pub inside : r ≤ length numbers
  pub found : r < length numbers → (get_or numbers r 0 ≡ number) × (often number (take r numbers) ≡ k)
  pub missing : length numbers ≤ r → often number numbers ≤ k
