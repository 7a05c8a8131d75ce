-- The line (rule 23.1): datagrams in order, never more than k lost in a row, the last one arriving. It has a mark for each datagram that
-- was sent, in order: the datagram arrives or it is lost. Definitions only.
use Rattle.std.specs.Prelude.{ℕ, ◌+◌, ◌≤◌, ◌≡◌, List, [], ◌∷◌, ◌++◌, replicate}
use Rattle.session.specs.Cells.{State, received, spare}

pub data Mark : Type 0 where
  arrives : Mark
  lost : Mark

-- never more than k lost in a row: wherever n in a row are lost, n is at most k
pub record NeverMoreInARow (k : ℕ) (line : List Mark) : Type 0 where
  pub few : (before after : List Mark) (n : ℕ) → line ≡ before ++ (replicate n lost ++ after) → n ≤ k

-- the last one arrives
pub record LastArrives (line : List Mark) : Type 0 where
  pub before : List Mark
  pub last : line ≡ before ++ (arrives ∷ [])

-- how many arrive, and how many are lost
unfoldable pub how_many_arrive : List Mark → ℕ
how_many_arrive [] = 0
how_many_arrive (arrives ∷ line) = how_many_arrive line + 1
how_many_arrive (lost ∷ line) = how_many_arrive line

unfoldable pub how_many_lost : List Mark → ℕ
how_many_lost [] = 0
how_many_lost (arrives ∷ line) = how_many_lost line
how_many_lost (lost ∷ line) = how_many_lost line + 1

-- how the modem must get a packet: as received where its own datagram arrives, from a spare where that is lost (rule 23.7)
abbrev pub kind_by : Mark → State
kind_by arrives = received
kind_by lost = spare
