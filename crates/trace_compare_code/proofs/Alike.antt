-- Whether two runs of octets are the same, octet after octet. Assumes nothing.
use mathlib.Core.Path.{◌≡◌, refl, ap}
use mathlib.Core.Bool.{Bool, true, false, ◌&&◌}
use mathlib.Core.List.{List, [], ◌∷◌}
use Prim.Native.Nat.{ℕ}
use lib.Dec.{eqb}
use lib.Pointwise.{pointwise}
use Rattle.trace_compare.specs.Entries.{same}

pub and-true : (a : Bool) → (a && true) ≡ a
and-true true = refl
and-true false = refl

-- the library's equality of two runs is the rules'
pub same_runs : (s t : List ℕ) → pointwise eqb s t ≡ same s t
unfolding same
same_runs [] [] = refl
same_runs [] (b ∷ t) = refl
same_runs (a ∷ s) [] = refl
same_runs (a ∷ s) (b ∷ t) = ap (λ (p : Bool). eqb a b && p) (same_runs s t)
