-- Which lines of two traces pair (rule 22.10). By hand: take the lines of one number out of both traces, keep their order, and put them
-- side by side. Definitions only.
use Rattle.std.specs.Prelude.{ℕ, ◌≡◌, cond, List, [], ◌∷◌, length, eqb}
use Rattle.std.proofs.Math.Option.{Option, some}
use Rattle.std.proofs.Math.ListN.{get_elem?}
use Rattle.datagram.specs.Carried.{Carried}

-- a line of a trace that holds a datagram: its line number, from 1, and what the datagram carries
pub record TraceLine : Type 0 where
  pub line : ℕ
  pub datagram : Carried

abbrev pub number_of_line : TraceLine → ℕ
number_of_line l = l.datagram.number

-- the lines of one number, in their order
unfoldable pub having : ℕ → List TraceLine → List TraceLine
having number [] = []
having number (l ∷ lines) = cond (eqb (number_of_line l) number) (l ∷ having number lines) (having number lines)

-- the line of the other trace that a line pairs with, if there is one: if k lines of its number precede it, the line of that number that k
-- others precede in the other trace
abbrev pub mate : List TraceLine → TraceLine → List TraceLine → Option TraceLine
mate before l other = get_elem? (having (number_of_line l) other) (length (having (number_of_line l) before))

-- the same as a relation: two lines pair if both are the k-th line of one number
pub record Pair (first second : List TraceLine) (l m : TraceLine) : Type 0 where
  pub number : ℕ
  pub k : ℕ
  pub left : get_elem? (having number first) k ≡ some l
  pub right : get_elem? (having number second) k ≡ some m
