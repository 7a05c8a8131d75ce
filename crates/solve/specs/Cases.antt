-- Small cases of solving where a rule could be misread. Each case cites the rule that it shows. Definitions only.
use Rattle.std.specs.Prelude.{ℕ, List, [], ◌∷◌}
use Rattle.session.specs.Cells.{Cell, unknown_cell, filled_cell, received, repaired}
use Rattle.session.specs.Repair.{Message}
use Rattle.solve.specs.Equations.{padded, Unsolvable}
use Rattle.solve.specs.Solved.{Solved}

-- a message over some places; a received number; a number that the call fills
abbrev pub over_places : List ℕ → List ℕ → Message
over_places members octets = record { members = members; octets = octets }

abbrev pub came_with : List ℕ → Cell
came_with octets = filled_cell 0 received octets

abbrev pub fixed : List ℕ → Cell
fixed octets = filled_cell 0 repaired (padded octets)

pub record Cases : Type 0 where
  -- every message has two or more unknown members, yet the messages together determine them, at places before the base too: `01`, `02`
  -- and `04` have the exclusive or `03`, `06` and `07` (rules 14.1 to 14.4)
  pub three-together : Solved (unknown_cell ∷ unknown_cell ∷ unknown_cell ∷ [])
      (over_places (0 ∷ 1 ∷ []) (0x03 ∷ []) ∷ over_places (1 ∷ 2 ∷ []) (0x06 ∷ []) ∷ over_places (0 ∷ 1 ∷ 2 ∷ []) (0x07 ∷ []) ∷ [])
      (fixed (0x01 ∷ []) ∷ fixed (0x02 ∷ []) ∷ fixed (0x04 ∷ []) ∷ [])
  -- one message over two unknown numbers leaves both unknown (rule 14.2)
  pub two-values : Solved (unknown_cell ∷ unknown_cell ∷ []) (over_places (0 ∷ 1 ∷ []) (0x03 ∷ []) ∷ []) (unknown_cell ∷ unknown_cell ∷ [])
  -- a known number is unchanged, whatever its length (rule 14.8)
  pub known-stays : Solved (came_with (0x01 ∷ []) ∷ unknown_cell ∷ []) (over_places (0 ∷ 1 ∷ []) (0x03 ∷ []) ∷ [])
      (came_with (0x01 ∷ []) ∷ fixed (0x02 ∷ []) ∷ [])
  -- a message of length 0 is an equation: this one says that the number is zeros (rule 14.5)
  pub empty-message : Solved (unknown_cell ∷ []) (over_places (0 ∷ []) [] ∷ []) (fixed [] ∷ [])
  -- a message whose members are all known and that does not fit them (rule 14.6)
  pub misfit : Unsolvable (came_with (0x01 ∷ []) ∷ []) (over_places (0 ∷ []) (0x02 ∷ []) ∷ [])
  -- a message that was cut short against a longer known member (rule 14.6)
  pub cut_short : Unsolvable (came_with (0xAA ∷ 0xBB ∷ []) ∷ []) (over_places (0 ∷ []) (0xAA ∷ []) ∷ [])
  -- two different messages over the same unknown numbers (rule 14.6)
  pub differ : Unsolvable (unknown_cell ∷ unknown_cell ∷ []) (over_places (0 ∷ 1 ∷ []) (0x01 ∷ []) ∷ over_places (0 ∷ 1 ∷ []) (0x02 ∷ []) ∷ [])
