-- Equations: each of m rows has some of n columns, and asks for a value that the exclusive or of the values in these columns must equal.
-- Solving has a column for each number in view and a row for each message (rules 14.1 and 14.2). Definitions only.
use Rattle.std.specs.Prelude.{ℕ, ◌<◌, ◌≡◌, ◌⊎◌, Bool, true, false, not, ◌&&◌, ◌||◌, eqb}
use Rattle.octets.specs.Place.{all_below}
use Rattle.solve_algebra.specs.First.{first_passing}
use Rattle.solve_algebra.specs.Sums.{sum_over}

-- values that satisfy the equations
abbrev pub Satisfies : ℕ → ℕ → (ℕ → ℕ → Bool) → (ℕ → ℕ) → (ℕ → ℕ) → Type 0
Satisfies n m rows asked values = (i : ℕ) → i < m → sum_over n (rows i) values ≡ asked i

-- the equations allow only one value for column p
abbrev pub Determined : ℕ → ℕ → (ℕ → ℕ → Bool) → (ℕ → ℕ) → ℕ → Type 0
Determined n m rows asked p = (x y : ℕ → ℕ) → Satisfies n m rows asked x → Satisfies n m rows asked y → x p ≡ y p

-- a row without columns, and the test of it
abbrev pub Empty : ℕ → (ℕ → Bool) → Type 0
Empty n row = (c : ℕ) → c < n → row c ≡ false

unfoldable pub empty_test : ℕ → (ℕ → Bool) → Bool
empty_test n row = all_below n (λ c. not (row c))

-- a row whose only column is p, and the test of it
pub record Alone (n : ℕ) (row : ℕ → Bool) (p : ℕ) : Type 0 where
  pub has : row p ≡ true
  pub others : (c : ℕ) → c < n → (c ≡ p → ⊥) → row c ≡ false

unfoldable pub alone_test : ℕ → (ℕ → Bool) → ℕ → Bool
alone_test n row p = row p && all_below n (λ c. eqb c p || not (row c))

-- column p is alone in some row; the first such row, m if there is none
pub record HasAlone (n m : ℕ) (rows : ℕ → ℕ → Bool) (p : ℕ) : Type 0 where
  pub row : ℕ
  pub inside : row < m
  pub alone : Alone n (rows row) p

unfoldable pub alone_row : ℕ → ℕ → (ℕ → ℕ → Bool) → ℕ → ℕ
alone_row n m rows p = first_passing m (λ i. alone_test n (rows i) p)

-- column c is row i's own: no other row has it
pub record Owns (n m : ℕ) (rows : ℕ → ℕ → Bool) (i c : ℕ) : Type 0 where
  pub inside : c < n
  pub alone : Alone m (λ j. rows j c) i

-- reduced: each row is empty or has a column of its own
abbrev pub Reduced : ℕ → ℕ → (ℕ → ℕ → Bool) → Type 0
Reduced n m rows = (i : ℕ) → i < m → Empty n (rows i) ⊎ (c : ℕ) × Owns n m rows i c

-- every empty row asks for zero
abbrev pub Consistent : ℕ → ℕ → (ℕ → ℕ → Bool) → (ℕ → ℕ) → Type 0
Consistent n m rows asked = (i : ℕ) → i < m → Empty n (rows i) → asked i ≡ 0
