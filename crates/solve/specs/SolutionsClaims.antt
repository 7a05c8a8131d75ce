-- The claims about the function `solve`, and that solutions over octets say the same (rules 14.2 and 14.6). Statements alone.
use Rattle.std.specs.Prelude.{ℕ, ◌↔◌}
use Rattle.session.specs.Held.{held_messages}
use Rattle.session.specs.View.{View}
use Rattle.session.specs.Ranges.{Sound}
use Rattle.solve.specs.Equations.{Unsolvable, OneValue, OfOctets, NoOctets, OneOctets}
use Rattle.solve.specs.Solved.{Solves}
use Rattle.solve.specs.Solve.{solve}

-- for every session within its ranges, `solve` returns what `Solves` allows (rules 14.2, 14.3, 14.6 and 14.8)
abbrev pub MeansIt : Type 0
MeansIt = (view : View) → Sound view → Solves view (solve view)

-- the values of a solution are not required to be octets. In a session whose own values are octets that makes no difference: no numbers
-- satisfy the equations exactly if no octets do (rule 14.6), and numbers allow only one value exactly if octets do (rule 14.2)
pub record OctetsAlone : Type 0 where
  pub none : (view : View) → Sound view → OfOctets view.cells (held_messages view.held)
      → Unsolvable view.cells (held_messages view.held) ↔ NoOctets view.cells (held_messages view.held)
  pub one : (view : View) → Sound view → OfOctets view.cells (held_messages view.held) → (p : ℕ)
      → OneValue view.cells (held_messages view.held) p ↔ OneOctets view.cells (held_messages view.held) p

pub record Claims : Type 0 where
  pub means_it : MeansIt
  pub octets_alone : OctetsAlone
