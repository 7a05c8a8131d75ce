-- Which numbers are listed, and which lines are dropped. Assumes nothing.
use Prim.Native.Nat.{ℕ}
use mathlib.Core.Path.{◌≡◌, refl, sym, ap, ◌∙◌}
use mathlib.Core.Bool.{Bool, true, false, ◌||◌, false≢true}
use mathlib.Core.List.{List, [], ◌∷◌, ◌++◌}
use mathlib.Core.Logic.{◌↔◌, ⊎_elim}
use lib.Dec.{eqb}
use native.Mathlib.Omega.{arith}
use borrow.Author.Tests.{eqb-true}
use Rattle.octets.proofs.Laws.{true-or-false}
use Rattle.length.specs.Answers.{Answer, done, refused}
use Rattle.trace_replay.specs.Replay.{number_in, listed, listed_as, dropped}
use Rattle.trace_replay.specs.Claims.{Listed}

-- ---- the list
pub listed-none : (number : ℕ) → listed [] number ≡ false
unfolding listed
listed-none number = refl

-- a list after another
or_assoc : (a b c : Bool) → ((a || b) || c) ≡ (a || (b || c))
or_assoc true b c = refl
or_assoc false b c = refl

pub listed-append : (numbers others : List ℕ) (number : ℕ)
    → listed (numbers ++ others) number ≡ (listed numbers number || listed others number)
unfolding listed
listed-append [] others number = refl
listed-append (n ∷ numbers) others number =
    ap (λ (b : Bool). eqb n number || b) (listed-append numbers others number)
    ∙ sym (or_assoc (eqb n number) (listed numbers number) (listed others number))

-- one number more at the end, as a loop comes to it
pub or-false : (b : Bool) → (b || false) ≡ b
or-false true = refl
or-false false = refl

pub listed_more : (numbers : List ℕ) (n number : ℕ) → listed (numbers ++ (n ∷ [])) number ≡ (listed numbers number || eqb n number)
unfolding listed
listed_more numbers n number =
    listed-append numbers (n ∷ []) number ∙ ap (λ (b : Bool). listed numbers number || b) (or-false (eqb n number))

-- ---- a line
pub not-dropped : (numbers line : List ℕ) → ((number : ℕ) → number_in line ≡ done number → listed numbers number ≡ false)
    → dropped numbers line ≡ false
unfolding dropped
not-dropped numbers line none = by (number_in line) refl where
  by : (a : Answer ℕ) → number_in line ≡ a → listed_as numbers a ≡ false
  by (done number) e = none number e
  by (refused why) e = refl

pub dropped-exactly : (numbers line : List ℕ) → (dropped numbers line ≡ true) ↔ Listed numbers line
unfolding dropped
dropped-exactly numbers line = (λ is. forth (number_in line) refl is, back) where
  forth : (a : Answer ℕ) → number_in line ≡ a → listed_as numbers a ≡ true → Listed numbers line
  forth (done number) e is = record { number = number; read = e; among = is }
  forth (refused why) e is = absurd (false≢true is)

  back : Listed numbers line → listed_as numbers (number_in line) ≡ true
  back l = rw l.read l.among

-- lists that hold a line's number alike
pub dropped-alike : (numbers others line : List ℕ) → ((number : ℕ) → listed numbers number ≡ listed others number)
    → dropped numbers line ≡ dropped others line
unfolding dropped
dropped-alike numbers others line same = by (number_in line) where
  by : (a : Answer ℕ) → listed_as numbers a ≡ listed_as others a
  by (done number) = same number
  by (refused why) = refl

-- a list after another
pub dropped-append : (numbers others line : List ℕ) → dropped (numbers ++ others) line ≡ (dropped numbers line || dropped others line)
unfolding dropped
dropped-append numbers others line = by (number_in line) where
  by : (a : Answer ℕ) → listed_as (numbers ++ others) a ≡ (listed_as numbers a || listed_as others a)
  by (done number) = listed-append numbers others number
  by (refused why) = refl

-- no number listed
pub dropped-none : (line : List ℕ) → dropped [] line ≡ false
dropped-none line = not-dropped [] line (λ number e. listed-none number)
